-- What the program writes: a function of the bytes of the file.
--
--   join_most, join_budget    == how many bytes a file has at most, and how many nodes are allowed
--   join_table, join_output   == the buffers before the calls
--   long_text                == what is said of a longer file
--   numbers_line n c p       == number, count and place on a line
--   owl_of s                 == the answer to the text s: there is one, and only one (`owl_some`, `owl_unique`)
--   Join                    == number, count and place; the table that was solved, and the output
--   join_as n c p table output == these as one
--   answered_join table a    == the table, and the solver's answer a to it
--   solved_join table        == a table, solved
--   joined_by a              == what comes of the answer a to a text: its table is solved, or it is refused
--   joined s                == what comes of the text s
--   file_text s j            == its text: number, count and place, and under 0 a line for each named variable
--   join_text s              == THE TEXT that is written for the file s
use Rattle.std.specs.Prelude.{true, false, List, [], ◌∷◌, ◌++◌, ℕ, ◌+◌, ◌*◌, eqb, ltb, length, take, replicate}
use Rattle.bounds.specs.Bounds.{max_restrictions, max_variables, max_lines, max_role_rows, set_bytes}
use Rattle.answer.specs.Handed.{handed}
use Rattle.table.specs.Reading.{header_length, table_of}
use Rattle.table.specs.Bytes.{longest_line}
use Rattle.output.specs.Written.{set_in}
use Rattle.text.specs.Listing.{under_number}
use Rattle.text.specs.Batch.{read_text}
use Rattle.makrothel.specs.Solve.{Answered, answer}
use Rattle.owl.specs.Mention.{names_in}
use Rattle.owl_answer.specs.Owl.{Owl}
use Rattle.owl_answer.specs.OwlLaws.{owl_some}
use Rattle.spell.specs.Spelling.{named_lines}

-- "at least 65,536 bytes"
abbrev pub join_most : ℕ
join_most = 65536

-- "solves it with budget 1,000,000"
abbrev pub join_budget : ℕ
join_budget = 1000000

-- room for every readable table, and for the set of every variable
abbrev pub join_table : List ℕ
join_table = replicate (header_length + 1 + 2 * max_role_rows + 2 * max_restrictions + longest_line * max_lines) 0

abbrev pub join_output : List ℕ
join_output = replicate (set_bytes * max_variables) 0

-- "a longer one is refused in plain words, with nothing else said": `The file is too long: it may have 65536 bytes at most.`
unfoldable pub long_text : List ℕ
long_text =
    0x54 ∷ 0x68 ∷ 0x65 ∷ 0x20 ∷ 0x66 ∷ 0x69 ∷ 0x6C ∷ 0x65 ∷ 0x20 ∷ 0x69 ∷ 0x73 ∷ 0x20 ∷ 0x74 ∷ 0x6F ∷ 0x6F ∷ 0x20
    ∷ 0x6C ∷ 0x6F ∷ 0x6E ∷ 0x67 ∷ 0x3A ∷ 0x20 ∷ 0x69 ∷ 0x74 ∷ 0x20 ∷ 0x6D ∷ 0x61 ∷ 0x79 ∷ 0x20 ∷ 0x68 ∷ 0x61 ∷ 0x76
    ∷ 0x65 ∷ 0x20 ∷ 0x36 ∷ 0x35 ∷ 0x35 ∷ 0x33 ∷ 0x36 ∷ 0x20 ∷ 0x62 ∷ 0x79 ∷ 0x74 ∷ 0x65 ∷ 0x73 ∷ 0x20 ∷ 0x61 ∷ 0x74
    ∷ 0x20 ∷ 0x6D ∷ 0x6F ∷ 0x73 ∷ 0x74 ∷ 0x2E ∷ 0x0A ∷ []

-- "prints number, count and place as the listing does"
abbrev pub numbers_line : ℕ → ℕ → ℕ → List ℕ
numbers_line n c p = read_text (n ∷ c ∷ p ∷ [])

-- "makes the table"
unfoldable pub owl_of : List ℕ → Owl
owl_of s = (owl_some s join_table).0

pub record Join : Type 0 where
  pub number : ℕ
  pub count : ℕ
  pub place : ℕ
  pub table : List ℕ
  pub output : List ℕ

abbrev pub join_as : ℕ → ℕ → ℕ → List ℕ → List ℕ → Join
join_as n c p table output = record { number = n; count = c; place = p; table = table; output = output }

abbrev pub answered_join : List ℕ → Answered → Join
answered_join table a = join_as (handed a.says).number (handed a.says).count (handed a.says).place table a.output

abbrev pub solved_join : List ℕ → Join
solved_join table = answered_join table (answer table join_budget join_output)

unfoldable pub joined_by : Owl → Join
joined_by a = elim (eqb a.number 0) [ true ↦ solved_join (take a.count a.buffer) | false ↦ join_as a.number a.count a.place [] join_output ]

abbrev pub joined : List ℕ → Join
joined s = joined_by (owl_of s)

-- "under 0 a line for each named variable"
abbrev pub file_text : List ℕ → Join → List ℕ
file_text s j = numbers_line j.number j.count j.place ++ under_number j.number (named_lines (names_in s) (table_of j.table) (set_in j.output))

unfoldable pub join_text : List ℕ → List ℕ
join_text s = elim (ltb join_most (length s)) [ true ↦ long_text | false ↦ file_text s (joined s) ]
