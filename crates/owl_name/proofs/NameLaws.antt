-- Laws of names as they are written.
--
--   same_is, begins_is == the tests of the library on bytes are those of the specification
--   same_sym           == the order of the two does not matter
--   eq_is, found_is    == what `==` says of two names, and of what may be one and a name
--   does_is            == what `==` says of what two names do
--   role_passes        == what passes where a role is asked for
--   declares_at        == whether a stop declares a name
use Rattle.std.specs.Prelude.{◌≡◌, Bool, true, false, ◌&&◌, List, [], ◌∷◌, ℕ, ◌<◌, eqb, Option, Some, None}
use Rattle.std.proofs.Common.{refl, sym, ap, ap₂, ◌∙◌, arith, ne_eqb}
use Rattle.std.specs.Cmp.Lexicographic.{pointwise}
use Rattle.std.specs.Option.{option_eq}
use Rattle.std.specs.List.{starts_with}
use denote.Enum.Declared.{tag_of}
use denote.Enum.Bare.{sameb}
use Rattle.owl.specs.Tree as tree
use Rattle.owl.specs.Mention.{mentioned}
use Rattle.owl.specs.Naming.{same_bytes, begins_with, same_name}
use Rattle.owl_name.specs.declared.names.Name.{Name}
use Rattle.owl_name.specs.declared.names.Name.TheVariants.{Short, Full}
use Rattle.owl_name.specs.contracts.names.NamePartialEq.TheImpl as eq
use Rattle.owl_name.specs.declared.walks.Does.{Does}
use Rattle.owl_name.specs.declared.walks.Does.TheVariants.{Nothing, DeclaresClass, DeclaresProperty, UsesClass, UsesProperty, Other}
use Rattle.owl_name.specs.declared.walks.Stop.{Stop}
use Rattle.owl_name.specs.contracts.walks.Does as does
use Rattle.owl_name.specs.Walk.{written, does_number, named_and, passes, role_of}
use Rattle.owl_name.specs.Declarations.{declares}

pub same_is : (a b : List ℕ) → pointwise eqb a b ≡ same_bytes a b
unfolding same_bytes
same_is [] [] = refl
same_is [] (y ∷ b) = refl
same_is (x ∷ a) [] = refl
same_is (x ∷ a) (y ∷ b) = ap (λ (t : Bool). eqb x y && t) (same_is a b)

pub begins_is : (w b : List ℕ) → starts_with eqb b w ≡ begins_with w b
unfolding begins_with
begins_is [] b = refl
begins_is (x ∷ w) [] = refl
begins_is (x ∷ w) (y ∷ b) = ap (λ (t : Bool). eqb x y && t) (begins_is w b)

eqb_sym : (a b : ℕ) → eqb a b ≡ eqb b a
eqb_sym a b = grind arith

bytes_sym : (a b : List ℕ) → same_bytes a b ≡ same_bytes b a
unfolding same_bytes
bytes_sym [] [] = refl
bytes_sym [] (y ∷ b) = refl
bytes_sym (x ∷ a) [] = refl
bytes_sym (x ∷ a) (y ∷ b) = ap₂ ◌&&◌ (eqb_sym x y) (bytes_sym a b)

pub same_sym : (a b : tree.Name) → same_name a b ≡ same_name b a
same_sym (tree.short a) (tree.short b) = bytes_sym a b
same_sym (tree.short a) (tree.full b) = refl
same_sym (tree.full a) (tree.short b) = refl
same_sym (tree.full a) (tree.full b) = bytes_sym a b

pub eq_is : (a b : Name) → eq.eq-value.it a b ≡ same_name (written a) (written b)
eq_is (Short a) (Short b) = same_is a.now b.now
eq_is (Short a) (Full b) = refl
eq_is (Full a) (Short b) = refl
eq_is (Full a) (Full b) = same_is a.now b.now

pub found_is : (o : Option Name) (n : Name) → option_eq eq.eq-value.it o (Some n) ≡ named_and (same_name (written n)) o
found_is None n = refl
found_is (Some m) n = eq_is m n ∙ same_sym (written m) (written n)

----------------------------------------------------------------------------------------------------
-- What a name does

does_tag : (q : Does) → tag_of does.the_type q ≡ does_number q
does_tag Nothing = refl
does_tag DeclaresClass = refl
does_tag DeclaresProperty = refl
does_tag UsesClass = refl
does_tag UsesProperty = refl
does_tag Other = refl

pub does_is : (q r : Does) → sameb does.the_type q r ≡ eqb (does_number q) (does_number r)
does_is q r = ap₂ eqb (does_tag q) (does_tag r)

pub declares_at : (x : Stop) (sort : Does) (m n : Name) (b : Bool) → x.name ≡ Some m → sameb does.the_type x.does sort ≡ b → (b && eq.eq-value.it m n) ≡ passes (declares (does_number sort) (written n)) x
unfolding declares
declares_at x sort m n b h e =
    ap₂ ◌&&◌ (sym e ∙ does_is x.does sort) (eq_is m n ∙ same_sym (written m) (written n))
    ∙ sym (ap (named_and (λ k. eqb (does_number x.does) (does_number sort) && same_name (written n) k)) h)

-- what passes where a role is asked for
pub role_passes : (p : tree.Name → Bool) (x : Stop) → named_and p (role_of x) ≡ passes (λ m. eqb m.sort 4 && p m.name) x
role_passes p x = go (eqb (does_number x.does) 4) x.name
  where
    go : (b : Bool) (o : Option Name) → named_and p (elim b [ true ↦ o | false ↦ None ]) ≡ named_and (λ n. b && p n) o
    go true o = refl
    go false None = refl
    go false (Some n) = refl

-- a name that does nothing declares nothing
pub declares_none : (sort : ℕ) (n m : tree.Name) → 0 < sort → declares sort n (mentioned 0 m) ≡ false
unfolding declares
declares_none sort n m h = ap (λ (b : Bool). b && same_name n m) (ne_eqb 0 sort (λ e. omega arith))
