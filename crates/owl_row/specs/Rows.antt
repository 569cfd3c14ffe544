-- Small definitions that the code's promises name.
--
--   place_in x, key_in x    == the byte of a standing restriction, and the restriction
--   rest_of s at q n       == the restrictions of the text s from byte `at` on
--   first_row s r          == the byte of the first restriction of s that is r; the length of s if there is none
--   different_rows s limit == how many different restrictions begin before byte `limit`
--   named_at s at n        == the next token after byte `at` is the name n
--   alike_in s r f e m     == the mention m is the role r, and behind byte e stands the filler f
--   row_in s p e m         == the mention m at byte p is the role of a restriction that stands nowhere before it; byte e is behind it
--   own_in s e m           == it is the role of a restriction whose filler is no name
--   adds_row s does p k n e, own_here s does k e == the same of a token of kind k, which does this to the name n
--   fresh_before s limit   == how many restrictions that begin before byte `limit` have a filler that is no name
--   filler_kind f, filler_number f == a filler of the code as numbers
--   filler_by v k i        == a filler as the code tells it, where the fresh variables are numbered from v on
--   IsFiller s at k i     == it is that of the restriction whose role is the next token after byte `at`
--   IsNumber s at i       == i is the place of the restriction whose role is the next token after byte `at` among the different ones
use Rattle.std.specs.Prelude.{◌≡◌, Bool, true, false, ◌&&◌, ◌||◌, not, List, [], ◌∷◌, ◌++◌, ℕ, suc, ◌+◌, ◌-◌, eqb, length}
use Rattle.el.specs.Table.{Filler, top_f, constant_f, variable_f}
use Rattle.owl.specs.Once.{place, once}
use Rattle.owl.specs.Tree.{Name}
use Rattle.owl.specs.Naming.{same_name}
use Rattle.owl.specs.Token.{kind_at}
use Rattle.owl.specs.Grammar.{is_name}
use Rattle.owl.specs.Mention.{Mention, name_at, names_in}
use Rattle.owl.specs.Restriction.{by_name, Restriction, restricted, Standing, standing_at, standing_from, standing, restrictions_of, owns_of, same_restriction, filler_for}
use Rattle.owl_row.specs.declared.Filler as rows
use Rattle.owl_row.specs.declared.Filler.TheVariants.{Top, Constant, Open, Fresh}
use Rattle.owl_name.specs.Ordered.{before, first_of, different_before}

abbrev pub place_in : Standing → ℕ
place_in x = x.place

abbrev pub key_in : Standing → Restriction
key_in x = x.restriction

unfoldable pub rest_of : List ℕ → ℕ → ℕ → ℕ → List Standing
rest_of s at q n = standing_from s (suc (length s - at)) at q n

unfoldable pub first_row : List ℕ → Restriction → ℕ
first_row s r = first_of place_in key_in same_restriction r (length s) (standing s)

unfoldable pub different_rows : List ℕ → ℕ → ℕ
different_rows s limit = different_before place_in key_in same_restriction limit (standing s)

unfoldable pub named_at : List ℕ → ℕ → Name → Bool
named_at s at n = is_name (kind_at s at) && same_name n (name_at s at)

abbrev pub alike_in : List ℕ → Name → Name → ℕ → Mention → Bool
alike_in s r f e m = eqb m.sort 4 && (same_name r m.name && named_at s e f)

abbrev pub row_in : List ℕ → ℕ → ℕ → Mention → Bool
row_in s p e m = eqb m.sort 4 && (not (is_name (kind_at s e)) || eqb (first_row s (restricted m.name (by_name (name_at s e)))) p)

abbrev pub own_in : List ℕ → ℕ → Mention → Bool
own_in s e m = eqb m.sort 4 && not (is_name (kind_at s e))

unfoldable pub adds_row : List ℕ → ℕ → ℕ → ℕ → Name → ℕ → Bool
adds_row s does p k n e = is_name k && (eqb does 4 && (not (is_name (kind_at s e)) || eqb (first_row s (restricted n (by_name (name_at s e)))) p))

unfoldable pub own_here : List ℕ → ℕ → ℕ → ℕ → Bool
own_here s does k e = is_name k && (eqb does 4 && not (is_name (kind_at s e)))

unfoldable pub fresh_before : List ℕ → ℕ → ℕ
fresh_before s limit = owns_of (restrictions_of (before place_in limit (standing s)))

-- 0 top, 1 a constant, 2 an open name, 3 a fresh variable
unfoldable pub filler_by : ℕ → ℕ → ℕ → Filler
filler_by v k i = elim (eqb k 0) [ true ↦ top_f | false ↦ elim (eqb k 1) [ true ↦ constant_f i | false ↦ elim (eqb k 2) [ true ↦ variable_f i | false ↦ variable_f (v + i) ] ] ]

abbrev pub filler_kind : rows.Filler → ℕ
filler_kind Top = 0
filler_kind (Constant i) = 1
filler_kind (Open i) = 2
filler_kind (Fresh i) = 3

abbrev pub filler_number : rows.Filler → ℕ
filler_number Top = 0
filler_number (Constant i) = i
filler_number (Open i) = i
filler_number (Fresh i) = i

unfoldable pub IsFiller : List ℕ → ℕ → ℕ → ℕ → Type 0
IsFiller s at k i =
    (v n : ℕ) (pre post : List Standing) → standing s ≡ pre ++ (standing_at s at n ∷ post) → filler_by v k i ≡ filler_for (names_in s) v (standing_at s at n).restriction.part

unfoldable pub IsNumber : List ℕ → ℕ → ℕ → Type 0
IsNumber s at i =
    (n : ℕ) (pre post : List Standing) → standing s ≡ pre ++ (standing_at s at n ∷ post) →
    i ≡ place same_restriction (standing_at s at n).restriction (once same_restriction [] (restrictions_of (standing s)))
