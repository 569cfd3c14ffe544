-- The tables with known outcome, P1 to P12 and those with role rows, as one list under one statement; and inputs that are refused.
--
--   Budget      == at least so many nodes, or exactly so many
--   Under g b   == the budget b is one of g
--   Case        == a table's bytes, budgets, how many variables it has, and what is answered: number, count and sets
--   cases       == P1 to P12, R1 to R5 with role rows, and W1 at the bounds
--   Is k out r  == the answer r has the case's number and count, place 0, and its sets written to `out`
--   Answers k   == for every such budget and every output with room the answer is so
--   cases_hold  == every case answers so
--   Refusal     == an input that is refused, and the answer
--   refusals    == those of version 2, of other versions, and of counts over their bounds
--   Refuses k   == for every budget and every output the answer is that refusal, and the output stays; and the reader answers so
--   refusals_hold == every one of them is so refused
use Rattle.std.specs.Prelude.{◌≡◌, refl, List, [], ◌∷◌, ◌++◌, ℕ, ◌*◌, ◌≤◌, T, length, replicate}
use Rattle.std.proofs.Common.{sym, ap, subst, ◌∙◌, arith}
use Rattle.bounds.specs.Bounds.{set_bytes}
use Rattle.el.specs.Test.{any_below, all_below, any_of, every_of, bit}
use Rattle.el.specs.Description.{same_role}
use Rattle.el.specs.Roles.{reaches_role}
use Rattle.el.specs.Table.{Table, row_at, atoms, declared, role_order}
use Rattle.el.specs.Meaning.{holds}
use Rattle.el.specs.Assignment.{set_of, depends, path, reaches, acyclic, atom_under, conjoin, set_under, induced_to, induced}
use Rattle.el.specs.Walk.{chosen, line_variables, settled, ready, fails, dead, full, ends, in_turn, tree_of, nodes, up_to_first, first_of, examined, count, Outcome, solved, nothing, budget, outcome}
use Rattle.el.proofs.OutcomeLaws.{more_budget}
use Rattle.answer.specs.declared.Answer.{Answer}
use Rattle.answer.specs.declared.Answer.TheVariants.{EndsEarly, WrongVersion, OverBound, NotAllowed}
use Rattle.answer.specs.Handed.{handed}
use Rattle.table.specs.Code.{kind_of, within, role_of, filler_of_kind, filler_of, entry_of_kind, entry_of}
use Rattle.table.specs.Reading.{marked, version_known, has_role_rows, header_end, role_count, read_counts, read_header, read_many, read_pair, read_code, read_line, read_body, refusal, readable, header_of, reading, table_of}
use Rattle.table.specs.Bytes.{IsTable}
use Rattle.table.specs.RefusalLaws.{refused_means}
use Rattle.output.specs.Written.{little_endian, assignment_bytes, written_in, written}
use Rattle.makrothel.specs.Answer.{read_as, zeros, read_answer}
use Rattle.makrothel.specs.Numbers.{N}
use Rattle.makrothel.specs.Solve.{Answered, answered, outcome_as, answer}
use Rattle.makrothel.specs.Demand1.{is_table, answer_refused, demand_1_read_refused}
use Rattle.makrothel.specs.Demand2.{known, answer_outcome}

pub data Budget : Type 0 where
  at_least exactly : ℕ → Budget

abbrev pub Under : Budget → ℕ → Type 0
Under (at_least n) b = n ≤ b
Under (exactly n) b = b ≡ n

pub record Case : Type 0 where
  pub bytes : List ℕ
  pub budgets : Budget
  pub variables : ℕ
  pub number : ℕ
  pub count : ℕ
  pub sets : List ℕ

-- the mark, and the version behind it
abbrev marked_as : ℕ → ℕ → List ℕ → List ℕ
marked_as low high rest = 0x56 ∷ 0x4F ∷ 0x43 ∷ low ∷ high ∷ rest

abbrev table : List ℕ → List ℕ
table = marked_as 0x01 0x00

abbrev case : List ℕ → Budget → ℕ → ℕ → ℕ → List ℕ → Case
case rest b v n k a = record { bytes = table rest; budgets = b; variables = v; number = n; count = k; sets = a }

-- c, r, v, e, m
abbrev counts : ℕ → ℕ → ℕ → ℕ → ℕ → List ℕ
counts c r v e m = c ∷ r ∷ v ∷ e ∷ m ∷ []

-- a table of version 2: the counts, q and the role rows, and the rest
abbrev ordered : List ℕ → ℕ → List ℕ → List ℕ → List ℕ
ordered head q role_rows rest = marked_as 0x02 0x00 (head ++ (q ∷ (role_rows ++ rest)))

-- "Constants A, B; variables X, Y in this order; restrictions in the order of first writing."
abbrev A : ℕ
A = 0x20

abbrev B : ℕ
B = 0x21

abbrev X : ℕ
X = 0x60

abbrev Y : ℕ
Y = 0x61

-- no lines, no variables
abbrev pub p1 : Case
p1 = case (counts 0 0 0 0 0) (at_least 1) 0 0 1 []

-- A below B, no variables
abbrev pub p2 : Case
p2 = case (counts 2 0 0 0 1 ++ (1 ∷ A ∷ B ∷ [])) (at_least 1) 0 8 1 []

-- X below A
abbrev pub p3 : Case
p3 = case (counts 1 0 1 0 1 ++ (1 ∷ X ∷ A ∷ [])) (at_least 3) 1 0 3 (1 ∷ [])

-- A below X
abbrev pub p4 : Case
p4 = case (counts 1 0 1 0 1 ++ (1 ∷ A ∷ X ∷ [])) (at_least 2) 1 0 2 (0 ∷ [])

-- X below some r X
abbrev pub p5 : Case
p5 = case (counts 0 1 1 1 1 ++ (0 ∷ X ∷ 1 ∷ X ∷ 0x40 ∷ [])) (at_least 3) 1 8 3 []

-- some r X below some r A
abbrev pub p6 : Case
p6 = case (counts 1 1 1 2 1 ++ (0 ∷ X ∷ 0 ∷ A ∷ 1 ∷ 0x40 ∷ 0x41 ∷ [])) (at_least 3) 1 0 3 (1 ∷ [])

-- X below A; X below B; A and B below X
abbrev pub p7 : Case
p7 = case (counts 2 0 1 0 3 ++ (1 ∷ X ∷ A ∷ 1 ∷ X ∷ B ∷ 2 ∷ A ∷ B ∷ X ∷ [])) (at_least 5) 1 0 5 (3 ∷ [])

-- X below some r Y; Y below A
abbrev pub p8_rest : List ℕ
p8_rest = counts 1 1 2 1 2 ++ (0 ∷ Y ∷ 1 ∷ X ∷ 0x40 ∷ 1 ∷ Y ∷ A ∷ [])

abbrev pub p8 : Case
p8 = case p8_rest (at_least 14) 2 0 14 (2 ∷ 1 ∷ [])

-- P8, budget 13
abbrev pub p9 : Case
p9 = case p8_rest (exactly 13) 2 9 13 []

-- top below some r top, no variables
abbrev pub p10 : Case
p10 = case (counts 0 1 0 1 1 ++ (0 ∷ 0 ∷ 0 ∷ 0x40 ∷ [])) (at_least 1) 0 8 1 []

-- some r A below some r top, no variables
abbrev pub p11 : Case
p11 = case (counts 1 1 0 2 1 ++ (0 ∷ A ∷ 0 ∷ 0 ∷ 1 ∷ 0x40 ∷ 0x41 ∷ [])) (at_least 1) 0 0 1 []

-- X below A; X below B; some r A and some r B below some r X
abbrev pub p12 : Case
p12 =
    case (counts 2 1 1 3 3 ++ (0 ∷ A ∷ 0 ∷ B ∷ 0 ∷ X ∷ 1 ∷ X ∷ A ∷ 1 ∷ X ∷ B ∷ 2 ∷ 0x40 ∷ 0x41 ∷ 0x42 ∷ [])) (at_least 33) 1 8 33 []

-- some r A below some s A, no variables, with these role rows; r, s and t are roles 0, 1 and 2
abbrev some_below : ℕ → List ℕ → ℕ → Case
some_below q role_rows n =
    record { bytes = ordered (counts 1 2 0 2 1) q role_rows (0 ∷ A ∷ 1 ∷ A ∷ 1 ∷ 0x40 ∷ 0x41 ∷ []); budgets = at_least 1; variables = 0; number = n; count = 1; sets = [] }

-- no role row
abbrev pub r1 : Case
r1 = some_below 0 [] 8

-- the role row (r, s)
abbrev pub r2 : Case
r2 = some_below 1 (0 ∷ 1 ∷ []) 0

-- (s, r) only
abbrev pub r3 : Case
r3 = some_below 1 (1 ∷ 0 ∷ []) 8

-- rows (r, t), (t, s), (t, r): some r A below some s A; some s A below some r A
abbrev pub r4 : Case
r4 =
    record {
      bytes = ordered (counts 1 3 0 2 2) 3 (0 ∷ 2 ∷ 2 ∷ 1 ∷ 2 ∷ 0 ∷ []) (0 ∷ A ∷ 1 ∷ A ∷ 1 ∷ 0x40 ∷ 0x41 ∷ 1 ∷ 0x41 ∷ 0x40 ∷ []);
      budgets = at_least 1;
      variables = 0;
      number = 8;
      count = 1;
      sets = [];
    }

-- the same rows, and the first of the two lines alone
abbrev pub r5 : Case
r5 =
    record {
      bytes = ordered (counts 1 3 0 2 1) 3 (0 ∷ 2 ∷ 2 ∷ 1 ∷ 2 ∷ 0 ∷ []) (0 ∷ A ∷ 1 ∷ A ∷ 1 ∷ 0x40 ∷ 0x41 ∷ []);
      budgets = at_least 1;
      variables = 0;
      number = 0;
      count = 1;
      sets = [];
    }

-- as many constants, atoms and variables as there may be: constant 31 below restriction 23; 24 rows of role 0 and top
abbrev pub w1 : Case
w1 = case (counts 32 1 24 24 1 ++ (replicate 48 0 ++ (1 ∷ 0x3F ∷ 0x57 ∷ []))) (at_least 1) 24 8 1 []

abbrev pub cases : List Case
cases = p1 ∷ p2 ∷ p3 ∷ p4 ∷ p5 ∷ p6 ∷ p7 ∷ p8 ∷ p9 ∷ p10 ∷ p11 ∷ p12 ∷ r1 ∷ r2 ∷ r3 ∷ r4 ∷ r5 ∷ w1 ∷ []

-- an answer with that number, that count, place 0 and those sets
abbrev pub Is : Case → List ℕ → Answered → Type 0
Is k out r = (handed r.says ≡ record { number = k.number; count = k.count; place = 0 }) × (r.output ≡ written k.sets out)

unfoldable pub Answers : Case → Type 0
Answers k =
    (b : ℕ) → Under k.budgets b → (out : List ℕ) → set_bytes * k.variables ≤ length out
    → Is k out (answer k.bytes b out)

abbrev pub Every : {A : Type 0} → (A → Type 0) → List A → Type 0
Every P [] = Unit {0}
Every P (k ∷ ks) = P k × Every P ks

-- what the definitions compute of a case
abbrev Comes : Budget → Table → Outcome → Type 0
Comes (at_least n) t o = (N t ≡ n) × (outcome (role_order t) t n ≡ o)
Comes (exactly n) t o = outcome (role_order t) t n ≡ o

abbrev Computes : Case → Type 0
Computes k =
    (o : Outcome) × (reading k.bytes ≡ readable (header_of k.bytes) (table_of k.bytes)) × ((table_of k.bytes).variables ≡ k.variables)
    × Comes k.budgets (table_of k.bytes) o
    × ((out : List ℕ) → Is k out (outcome_as set_bytes o out))

comes : (t : Table) → T (declared t) → (g : Budget) (b : ℕ) (o : Outcome) → Under g b → Comes g t o → outcome (role_order t) t b ≡ o
comes t d (at_least n) b o u c = let e : N t ≡ n = c.0 in more_budget (role_order t) t d n b (omega arith) u ∙ c.1
comes t d (exactly n) b o u c = ap (outcome (role_order t) t) u ∙ c

answers : (k : Case) → Computes k → Answers k
unfolding Answers
answers k c b u out room =
    let is : IsTable k.bytes (table_of k.bytes) = is_table k.bytes (header_of k.bytes) (table_of k.bytes) c.1 in
    subst (Is k out) (sym (answer_outcome k.bytes (table_of k.bytes) is b out (subst (λ (v : ℕ). set_bytes * v ≤ length out) (sym c.2) room)
    ∙ ap (λ (o : Outcome). outcome_as set_bytes o out) (comes (table_of k.bytes) (known k.bytes (table_of k.bytes) is) k.budgets b c.0 u c.3)))
    (c.4 out)

every : (ks : List Case) → Every Computes ks → Every Answers ks
every [] c = tt
every (k ∷ ks) c = (answers k c.0, every ks c.1)

computed : Every Computes cases
unfolding written_in assignment_bytes little_endian outcome count examined first_of up_to_first nodes tree_of in_turn ends full dead fails ready settled line_variables chosen induced induced_to set_under conjoin atom_under acyclic reaches path depends set_of holds row_at atoms any_below all_below any_of every_of bit role_order reaches_role same_role table_of reading read_body read_line read_code read_pair read_many read_header read_counts header_end role_count has_role_rows version_known marked role_of entry_of entry_of_kind filler_of filler_of_kind within kind_of
computed = ((solved 1 [], refl, refl, (refl, refl), λ out. (refl, refl)), ((nothing 1, refl, refl, (refl, refl), λ out. (refl, refl)), ((solved 3 (1 ∷ []), refl, refl, (refl, refl), λ out. (refl, refl)), ((solved 2 (0 ∷ []), refl, refl, (refl, refl), λ out. (refl, refl)), ((nothing 3, refl, refl, (refl, refl), λ out. (refl, refl)), ((solved 3 (1 ∷ []), refl, refl, (refl, refl), λ out. (refl, refl)), ((solved 5 (3 ∷ []), refl, refl, (refl, refl), λ out. (refl, refl)), ((solved 14 (2 ∷ 1 ∷ []), refl, refl, (refl, refl), λ out. (refl, refl)), ((budget 13, refl, refl, refl, λ out. (refl, refl)), ((nothing 1, refl, refl, (refl, refl), λ out. (refl, refl)), ((solved 1 [], refl, refl, (refl, refl), λ out. (refl, refl)), ((nothing 33, refl, refl, (refl, refl), λ out. (refl, refl)), ((nothing 1, refl, refl, (refl, refl), λ out. (refl, refl)), ((solved 1 [], refl, refl, (refl, refl), λ out. (refl, refl)), ((nothing 1, refl, refl, (refl, refl), λ out. (refl, refl)), ((nothing 1, refl, refl, (refl, refl), λ out. (refl, refl)), ((solved 1 [], refl, refl, (refl, refl), λ out. (refl, refl)), ((nothing 1, refl, refl, (refl, refl), λ out. (refl, refl)), tt))))))))))))))))))

-- P1 TO P12, R1 TO R5, W1
pub cases_hold : Every Answers cases
cases_hold = every cases computed

----------------------------------------------------------------------------------------------------
-- Inputs that are refused

pub record Refusal : Type 0 where
  pub input : List ℕ
  pub because : Answer

-- ten bytes, version 2, good counts; with m 65; q 33 as the last byte; r 0, q 1; r 1, q 1, row 0, 1; the same without its last byte; version 3; version 0x0102;
-- c 33; c 33 with r 17; v 25 with e 33; e 33; c 32 with e 25; c 25 with e 32
abbrev pub refusals : List Refusal
refusals =
    record { input = marked_as 2 0 (counts 1 1 1 0 0); because = EndsEarly 10 }
    ∷ record { input = marked_as 2 0 (counts 1 1 1 0 65); because = OverBound 9 }
    ∷ record { input = ordered (counts 1 1 1 0 0) 33 [] []; because = OverBound 10 }
    ∷ record { input = ordered (counts 1 0 1 0 0) 1 (0 ∷ 0 ∷ []) []; because = NotAllowed 11 }
    ∷ record { input = ordered (counts 1 1 1 0 0) 1 (0 ∷ 1 ∷ []) []; because = NotAllowed 12 }
    ∷ record { input = ordered (counts 1 1 1 0 0) 1 (0 ∷ []) []; because = EndsEarly 12 }
    ∷ record { input = marked_as 3 0 (counts 1 1 1 0 0); because = WrongVersion }
    ∷ record { input = marked_as 2 1 (counts 1 1 1 0 0); because = WrongVersion }
    ∷ record { input = table (counts 33 0 0 0 0); because = OverBound 5 }
    ∷ record { input = table (counts 33 17 0 0 0); because = OverBound 5 }
    ∷ record { input = table (counts 0 0 25 33 0); because = OverBound 7 }
    ∷ record { input = table (counts 0 0 0 33 0); because = OverBound 8 }
    ∷ record { input = table (counts 32 0 0 25 0); because = OverBound 8 }
    ∷ record { input = table (counts 25 0 0 32 0); because = OverBound 8 }
    ∷ []

unfoldable pub Refuses : Refusal → Type 0
Refuses k = ((b : ℕ) (out : List ℕ) → answer k.input b out ≡ answered k.because out) × (read_answer (reading k.input) ≡ read_as k.because zeros)

refused_so : (k : Refusal) → reading k.input ≡ refusal k.because → Refuses k
unfolding Refuses
refused_so k e = let r = refused_means k.input k.because e in ((λ b out. answer_refused k.input b out k.because r), demand_1_read_refused k.input k.because r)

all_so : (ks : List Refusal) → Every (λ k. reading k.input ≡ refusal k.because) ks → Every Refuses ks
all_so [] c = tt
all_so (k ∷ ks) c = (refused_so k c.0, all_so ks c.1)

refused_computed : Every (λ k. reading k.input ≡ refusal k.because) refusals
unfolding reading read_body read_line read_code read_pair read_many read_header read_counts header_end role_count has_role_rows version_known marked role_of entry_of entry_of_kind filler_of filler_of_kind within kind_of
refused_computed = (refl, (refl, (refl, (refl, (refl, (refl, (refl, (refl, (refl, (refl, (refl, (refl, (refl, (refl, tt))))))))))))))

pub refusals_hold : Every Refuses refusals
refusals_hold = all_so refusals refused_computed
