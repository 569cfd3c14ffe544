-- A walk over the tokens of a text, as the code goes it.
--
--   written n     == the name that is written so
--   does_number q == what a name does, as a number; 5 stands for every number above 4
--   named_and p o == o is a name that passes p
--   passes p x    == the token at a stop is a name, and the mention of it passes p
--   role_of x     == the name at a stop, if it uses an object property
--   IsNamedBy k w o == o is the name that a token of kind k with the bytes w is, if it is one
--   IsNamed s at o == o is the name that the next token after byte `at` of the text s is, if it is one
--   StopAt s at q x == x is the next token after byte `at` of the text s, where the next name does q
--   Goes w r v    == the next stop of a walk w is r, and the walk goes on as v; there is none exactly where no token is left
use Rattle.std.specs.Prelude.{◌≡◌, Bool, false, true, List, ℕ, ◌≤◌, ◌<◌, eqb, length, Option, Some, None, MatchOption}
use Rattle.owl.specs.Tree as tree
use Rattle.owl.specs.Token.{place_at, kind_at, end_at}
use Rattle.owl.specs.Grammar.{is_name}
use Rattle.owl.specs.Mention.{Mention, mentioned, sort_after, name_by, bytes_at}
use Rattle.owl_token.specs.Kind.{kind_number}
use Rattle.owl_name.specs.declared.names.Name.{Name}
use Rattle.owl_name.specs.declared.names.Name.TheVariants.{Short, Full}
use Rattle.owl_name.specs.declared.walks.Does.{Does}
use Rattle.owl_name.specs.declared.walks.Does.TheVariants.{Nothing, DeclaresClass, DeclaresProperty, UsesClass, UsesProperty, Other}
use Rattle.owl_name.specs.declared.walks.Stop.{Stop}
use Rattle.owl_name.specs.declared.walks.Walk.{Walk}

abbrev pub written : Name → tree.Name
written (Short w) = tree.short w.now
written (Full w) = tree.full w.now

abbrev pub does_number : Does → ℕ
does_number Nothing = 0
does_number DeclaresClass = 1
does_number DeclaresProperty = 2
does_number UsesClass = 3
does_number UsesProperty = 4
does_number Other = 5

-- the mention at a stop, if it is a name, passes p
abbrev pub named_and : (tree.Name → Bool) → Option Name → Bool
named_and p None = false
named_and p (Some n) = p (written n)

abbrev pub passes : (Mention → Bool) → Stop → Bool
passes p x = named_and (λ n. p (mentioned (does_number x.does) n)) x.name

abbrev pub role_of : Stop → Option Name
role_of x = elim (eqb (does_number x.does) 4) [ true ↦ x.name | false ↦ None ]

abbrev pub IsNamedBy : ℕ → List ℕ → Option Name → Type 0
IsNamedBy k w o = MatchOption o (is_name k ≡ false) (λ n. (is_name k ≡ true) × (written n ≡ name_by k w))

abbrev pub IsNamed : List ℕ → ℕ → Option Name → Type 0
IsNamed s at o = IsNamedBy (kind_at s at) (bytes_at s at) o

pub record StopAt (s : List ℕ) (at q : ℕ) (x : Stop) : Type 0 where
  pub at_byte : x.at ≡ at
  pub does : does_number x.does ≡ q
  pub kind : kind_number x.kind ≡ kind_at s at
  pub place : x.place ≡ place_at s at
  pub end : x.end ≡ end_at s at
  pub some : kind_at s at ≡ 0 → ⊥
  pub within : x.end ≤ length s
  pub goes : at < x.end
  pub named : IsNamed s at x.name

abbrev pub Goes : Walk → Option Stop → Walk → Type 0
Goes w None v = kind_at w.text.now w.at ≡ 0
Goes w (Some x) v =
    StopAt w.text.now w.at (does_number w.does) x × (v.text.now ≡ w.text.now) × (v.at ≡ x.end)
    × (does_number v.does ≡ sort_after (does_number w.does) (kind_number x.kind))
