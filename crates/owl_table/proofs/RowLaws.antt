-- Laws of the rows of a text's table.
--
--   code_top, code_constant, code_open, code_own == the code of a filler
--   row_put                 == the row of a restriction
--   Rows, rows_start, rows_turn, rows_end == token by token
--   Writing, writing_start, writing_none, writing_skip, writing_put, writing_end == the same, along the walk of the code
use mathlib.Core.Path.{◌≡◌, refl, sym, ap, ap₂, subst, ◌∙◌}
use mathlib.Core.Bool.{Bool, true, false, ◌&&◌, ◌||◌, not}
use mathlib.Core.List.{List, [], ◌∷◌, ◌++◌, append-nil, map, map-append, flat_map}
use Prim.Native.Nat.{ℕ, ◌+◌, ◌-◌, ◌≤◌, ◌<◌}
use native.Mathlib.Omega.{arith}
use lib.Dec.{T, eqb, ltb, ltb→lt}
use lib.ListN.{length, take, drop}
use Rattle.std.specs.Prelude.{Some, None}
use Rattle.el.specs.Test.{any_of, every_of}
use Rattle.el.specs.TestLaws.{and_left, and_right, every_of_append}
use Rattle.el.specs.Table.{Filler, top_f, constant_f, variable_f, Row}
use Rattle.table.specs.Bytes.{filler_code, written_row}
use Rattle.text.specs.Append.{Appended}
use Rattle.text.specs.AppendLaws.{appended_none, appended_then, appended_as}
use Rattle.owl.specs.Once.{is_among, once}
use Rattle.owl.specs.DistinctLaws.{once_append, among_once}
use Rattle.owl.specs.Tree.{Name}
use Rattle.owl.specs.Naming.{role_number}
use Rattle.owl.specs.Token.{place_at, kind_at, end_at}
use Rattle.owl.specs.Grammar.{is_name}
use Rattle.owl.specs.Mention.{mentioned, sort_after, name_by, name_at, names_in}
use Rattle.owl.specs.Restriction.{by_name, Restriction, restricted, own_at, Standing, standing_at, standing, restrictions_of, same_restriction, filler_for, row_for, rows_for}
use Rattle.owl_token.specs.Kind.{kind_number}
use Rattle.owl_name.specs.declared.names.Name as code
use Rattle.owl_name.specs.declared.walks.Does.{Does}
use Rattle.owl_name.specs.declared.walks.Does.TheVariants.{Nothing}
use Rattle.owl_name.specs.declared.walks.Stop.{Stop}
use Rattle.owl_name.specs.declared.walks.Walk.{Walk}
use Rattle.owl_name.specs.Walk.{written, does_number, named_and, passes, role_of, IsNamed, StopAt, Goes}
use Rattle.owl_name.specs.Ordered.{Rising, first_of}
use Rattle.owl_name.proofs.NameLaws.{role_passes}
use Rattle.owl_name.proofs.RestLaws.{AtToken, token_name, stop_in, end_in, passes_is}
use Rattle.std.proofs.lemmas.Option.{none-some}
use Rattle.owl_name.proofs.OrderedLaws as ordered
use Rattle.owl_row.specs.Rows.{place_in, key_in, rest_of, first_row, row_in, adds_row, filler_by, IsFiller}
use Rattle.owl_row.proofs.StandLaws.{rest_start, rest_end, rest_turn, all_rising, same_restriction_refl, same_restriction_means}
use Rattle.owl_row.proofs.CountLaws.{keys_are, role_adds}
use Rattle.owl_line.proofs.SideLaws.{flat_more}
use Rattle.owl_table.specs.Rows.{small_row, rows_of, StandsAt, FillerCode, PutRow, PutRows}

----------------------------------------------------------------------------------------------------
-- The code of a filler

by_code : (s : List ℕ) (opens at k i r : ℕ) (x : Filler) → IsFiller s at k i → filler_by opens k i ≡ x → (filler_code x < 128 → r ≡ filler_code x) → FillerCode s opens at r
unfolding FillerCode IsFiller
by_code s opens at k i r x c e d n here l =
    let same : filler_for (names_in s) opens (standing_at s at n).restriction.part ≡ x = sym (c opens n here.0 here.1 here.2) ∙ e in
    d (subst (λ (y : Filler). filler_code y < 128) same l) ∙ sym (ap filler_code same)

pub code_top : (s : List ℕ) (opens at : ℕ) → IsFiller s at 0 0 → FillerCode s opens at 0
unfolding filler_by filler_code
code_top s opens at c = by_code s opens at 0 0 0 top_f c refl (λ l. refl)

pub code_constant : (s : List ℕ) (opens at i r : ℕ) → IsFiller s at 1 i → (i < 128 → r ≡ 0x20 + i) → FillerCode s opens at r
unfolding filler_by filler_code
code_constant s opens at i r c d = by_code s opens at 1 i r (constant_f i) c refl (λ l. d (omega arith))

pub code_open : (s : List ℕ) (opens at i r : ℕ) → IsFiller s at 2 i → (i < 128 → r ≡ 0x60 + i) → FillerCode s opens at r
unfolding filler_by filler_code
code_open s opens at i r c d = by_code s opens at 2 i r (variable_f i) c refl (λ l. d (omega arith))

pub code_own : (s : List ℕ) (opens at i r : ℕ) → IsFiller s at 3 i → (opens + i < 128 → r ≡ 0x60 + (opens + i)) → FillerCode s opens at r
unfolding filler_by filler_code
code_own s opens at i r c d = by_code s opens at 3 i r (variable_f (opens + i)) c refl (λ l. d (omega arith))

----------------------------------------------------------------------------------------------------
-- One row

pub row_put : (s : List ℕ) (opens at : ℕ) (name : Name) (number role code : ℕ) (b : List ℕ) (from : ℕ) (m : List ℕ) (middle : ℕ) (a : List ℕ) (r : ℕ) →
    number ≡ role_number (names_in s) name → (number < 128 → role ≡ 0 + number) → FillerCode s opens at code → Appended b from (role ∷ []) m middle → Appended m middle (code ∷ []) a r →
    PutRow s opens at name b from a r
unfolding PutRow FillerCode row_for written_row
row_put s opens at name number role code b from m middle a r d f c x y e n here small =
    let row : Row = row_for (names_in s) opens (standing_at s at n).restriction in
    let i : number ≡ row.role = d ∙ ap (role_number (names_in s)) e in
    let low : row.role < 128 = ltb→lt row.role 128 (and_left (ltb row.role 128) (ltb (filler_code row.filler) 128) small) in
    let low' : filler_code row.filler < 128 = ltb→lt (filler_code row.filler) 128 (and_right (ltb row.role 128) (ltb (filler_code row.filler) 128) small) in
    let g : role ≡ row.role = f (omega arith) ∙ (let q : 0 + number ≡ number = omega arith in q) ∙ i in
    appended_as (appended_then x y) (ap₂ (λ (u v : ℕ). u ∷ v ∷ []) g (c n here low'))

----------------------------------------------------------------------------------------------------
-- Token by token

-- the rows of some restrictions, equal ones once
abbrev rows_in : List ℕ → ℕ → List Standing → List Row
rows_in s opens l = rows_for (names_in s) opens (once same_restriction [] (restrictions_of l))

-- what is kept stays
once_begins : {A : Type 0} (same : A → A → Bool) (p : A → Bool) (l seen : List A) → T (every_of p (once same seen l)) → T (every_of p seen)
unfolding once
once_begins same p [] seen h = h
once_begins same p (x ∷ l) seen h = go (is_among same x seen) h (once_begins same p l seen) (once_begins same p l (seen ++ (x ∷ [])))
  where
    go : (b : Bool) → T (every_of p (elim b [ true ↦ once same seen l | false ↦ once same (seen ++ (x ∷ [])) l ])) → (T (every_of p (once same seen l)) → T (every_of p seen)) →
        (T (every_of p (once same (seen ++ (x ∷ [])) l)) → T (every_of p (seen ++ (x ∷ [])))) → T (every_of p seen)
    go true k u v = u k
    go false k u v = and_left (every_of p seen) (every_of p (x ∷ [])) (subst T (every_of_append p seen (x ∷ [])) (v k))

every_map : {A B : Type 0} (f : A → B) (p : B → Bool) (l : List A) → every_of p (map f l) ≡ every_of (λ (x : A). p (f x)) l
unfolding every_of
every_map f p [] = refl
every_map f p (x ∷ l) = ap (λ (b : Bool). p (f x) && b) (every_map f p l)

-- one restriction more
once_more : (r : Restriction) (l : List Restriction) → once same_restriction [] (l ++ (r ∷ [])) ≡ elim (is_among same_restriction r l) [ true ↦ once same_restriction [] l | false ↦ once same_restriction [] l ++ (r ∷ []) ]
unfolding once is_among any_of
once_more r l = once_append same_restriction l (r ∷ []) [] ∙ ap (λ (b : Bool). elim b [ true ↦ once same_restriction [] l | false ↦ once same_restriction [] l ++ (r ∷ []) ]) (among_once same_restriction same_restriction_means r l [])

restrictions_more : (l : List Standing) (x : Standing) → restrictions_of (l ++ (x ∷ [])) ≡ restrictions_of l ++ (x.restriction ∷ [])
restrictions_more l x = map-append (λ (y : Standing). y.restriction) l (x ∷ [])

-- the restrictions `own` were passed, and their rows are written
pub record Rows (s : List ℕ) (opens : ℕ) (b : List ℕ) (from at does end : ℕ) (a : List ℕ) : Type 0 where
  pub within : at ≤ length s
  pub number : ℕ
  pub own : List Standing
  pub split : standing s ≡ own ++ rest_of s at does number
  pub put : T (every_of small_row (rows_of s opens)) → Appended b from (flat_map written_row (rows_in s opens own)) a end

pub rows_start : (s : List ℕ) (opens : ℕ) (b : List ℕ) (from : ℕ) → Rows s opens b from 0 0 from b
unfolding once flat_map
rows_start s opens b from = record { within = omega arith; number = 0; own = []; split = rest_start s; put = λ t. appended_none b from }

pub rows_end : (s : List ℕ) (opens : ℕ) (b : List ℕ) (from at does end : ℕ) (a : List ℕ) → Rows s opens b from at does end a → kind_at s at ≡ 0 → PutRows s opens b from a end
unfolding PutRows rows_of
rows_end s opens b from at does end a c z small =
    appended_as (c.put small)
    (ap (λ (l : List Standing). flat_map written_row (rows_in s opens l)) (sym (c.split ∙ ap (λ (l : List Standing). c.own ++ l) (rest_end s at does c.number z) ∙ append-nil c.own)))

-- whether a role's restriction is the first of its kind
first_role : (s : List ℕ) (at does n : ℕ) (pre post : List Standing) → standing s ≡ pre ++ (standing_at s at n ∷ post) → is_name (kind_at s at) ≡ true → eqb does 4 ≡ true →
    adds_row s does (place_at s at) (kind_at s at) (name_at s at) (end_at s at) ≡ not (is_among same_restriction (standing_at s at n).restriction (restrictions_of pre))
first_role s at does n pre post d i q =
    let x : Standing = standing_at s at n in
    sym (role_adds s at does n pre post d i q)
    ∙ ap (λ (l : List Standing). eqb (first_of place_in key_in same_restriction x.restriction (length s) l) (place_at s at)) d
    ∙ ordered.first_own place_in key_in same_restriction same_restriction_refl same_restriction_means 0 (length s) pre post x (subst (Rising place_in 0 (length s)) d (all_rising s))
    ∙ ap (λ (l : List Restriction). not (is_among same_restriction x.restriction l)) (keys_are pre)

-- a token that is no role adds no row
no_role : (s : List ℕ) (does p k : ℕ) (n : Name) (e : ℕ) → (is_name k && eqb does 4) ≡ false → adds_row s does p k n e ≡ false
unfolding adds_row
no_role s does p k n e h = go (is_name k) (eqb does 4) h
  where
    go : (a b : Bool) → (a && b) ≡ false → (a && (b && (not (is_name (kind_at s e)) || eqb (first_row s (restricted n (by_name (name_at s e)))) p))) ≡ false
    go true true h = absurd (subst T h tt)
    go true false h = refl
    go false b h = refl

-- what is written behind a stop: its row where `add` holds, else nothing
abbrev Put : List ℕ → ℕ → ℕ → Bool → List ℕ → ℕ → List ℕ → ℕ → Type 0
Put s opens at add b from a r =
    (add ≡ true → (n : ℕ) → StandsAt s at n → T (small_row (row_for (names_in s) opens (standing_at s at n).restriction)) → Appended b from (written_row (row_for (names_in s) opens (standing_at s at n).restriction)) a r)
    × (add ≡ false → Appended b from [] a r)

-- nothing more is written
kept : (s : List ℕ) (opens : ℕ) (add : Bool) (at : ℕ) (b : List ℕ) (from : ℕ) (l m : List Row) (a : List ℕ) (end : ℕ) (a' : List ℕ) (end' : ℕ) → l ≡ m → add ≡ false → Appended b from (flat_map written_row l) a end →
    Put s opens at add a end a' end' → Appended b from (flat_map written_row m) a' end'
kept s opens add at b from l m a end a' end' e z x y = appended_as (appended_then x (y.1 z)) (append-nil (flat_map written_row l) ∙ ap (flat_map written_row) e)

-- the row of a restriction that stands nowhere before
row_small : (s : List ℕ) (opens : ℕ) (own post : List Standing) (x : Standing) → standing s ≡ own ++ (x ∷ post) → is_among same_restriction x.restriction (restrictions_of own) ≡ false →
    T (every_of small_row (rows_of s opens)) → T (small_row (row_for (names_in s) opens x.restriction))
unfolding rows_of every_of
row_small s opens own post x d i t =
    let f : Restriction → Row = row_for (names_in s) opens in
    let p : Restriction → Bool = λ (r : Restriction). small_row (f r) in
    let l : List Restriction = restrictions_of own in
    let all : T (every_of p (once same_restriction [] (restrictions_of (standing s)))) = subst T (every_map f small_row (once same_restriction [] (restrictions_of (standing s)))) t in
    let same : once same_restriction [] (restrictions_of (standing s)) ≡ once same_restriction (once same_restriction [] (l ++ (x.restriction ∷ []))) (restrictions_of post) =
    ap (λ (k : List Standing). once same_restriction [] (restrictions_of k)) (d ∙ ordered.append_one own x post)
    ∙ ap (once same_restriction []) (map-append (λ (y : Standing). y.restriction) (own ++ (x ∷ [])) post ∙ ap (λ (k : List Restriction). k ++ restrictions_of post) (restrictions_more own x))
    ∙ once_append same_restriction (l ++ (x.restriction ∷ [])) (restrictions_of post) [] in
    let begun : T (every_of p (once same_restriction [] (l ++ (x.restriction ∷ [])))) =
    once_begins same_restriction p (restrictions_of post) (once same_restriction [] (l ++ (x.restriction ∷ []))) (subst (λ (k : List Restriction). T (every_of p k)) same all) in
    let last : T (every_of p (once same_restriction [] l ++ (x.restriction ∷ []))) =
    subst (λ (k : List Restriction). T (every_of p k)) (once_more x.restriction l ∙ ap (λ (b : Bool). elim b [ true ↦ once same_restriction [] l | false ↦ once same_restriction [] l ++ (x.restriction ∷ []) ]) i) begun in
    and_left (p x.restriction) true
    (and_right (every_of p (once same_restriction [] l)) (every_of p (x.restriction ∷ [])) (subst T (every_of_append p (once same_restriction [] l) (x.restriction ∷ [])) last))

-- the rows with one restriction more
rows_more : (s : List ℕ) (opens : ℕ) (own : List Standing) (x : Standing) (i : Bool) → is_among same_restriction x.restriction (restrictions_of own) ≡ i →
    rows_in s opens (own ++ (x ∷ [])) ≡ rows_for (names_in s) opens (elim i [ true ↦ once same_restriction [] (restrictions_of own) | false ↦ once same_restriction [] (restrictions_of own) ++ (x.restriction ∷ []) ])
rows_more s opens own x i e =
    ap (λ (l : List Restriction). rows_for (names_in s) opens (once same_restriction [] l)) (restrictions_more own x)
    ∙ ap (rows_for (names_in s) opens)
    (once_more x.restriction (restrictions_of own) ∙ ap (λ (b : Bool). elim b [ true ↦ once same_restriction [] (restrictions_of own) | false ↦ once same_restriction [] (restrictions_of own) ++ (x.restriction ∷ []) ]) e)

module _ (s : List ℕ) (opens : ℕ) (b : List ℕ) (from at does end : ℕ) (a : List ℕ) (add : Bool) (a' : List ℕ) (end' : ℕ) (c : Rows s opens b from at does end a) (z : kind_at s at ≡ 0 → ⊥)
    (d : add ≡ adds_row s does (place_at s at) (kind_at s at) (name_at s at) (end_at s at)) (w : Put s opens at add a end a' end') (h : end_at s at ≤ length s) where
  abbrev n : ℕ
  n = c.number

  abbrev next : ℕ
  next = sort_after does (kind_at s at)

  abbrev rest : ℕ → List Standing
  rest m = rest_of s (end_at s at) next m

  abbrev x : Standing
  x = standing_at s at n

  idle : (is_name (kind_at s at) && eqb does 4) ≡ false → rest_of s at does n ≡ rest n → Rows s opens b from (end_at s at) next end' a'
  idle q e = record {
    within = h;
    number = n;
    own = c.own;
    split = c.split ∙ ap (λ (l : List Standing). c.own ++ l) e;
    put = λ t. kept s opens add at b from (rows_in s opens c.own) (rows_in s opens c.own) a end a' end' refl (d ∙ (no_role s does (place_at s at) (kind_at s at) (name_at s at) (end_at s at) q)) (c.put t) w;
  }

  role : is_name (kind_at s at) ≡ true → eqb does 4 ≡ true → (m : ℕ) → standing s ≡ c.own ++ (x ∷ rest m) → Rows s opens b from (end_at s at) next end' a'
  unfolding flat_map
  role i q m e = record {
    within = h;
    number = m;
    own = c.own ++ (x ∷ []);
    split = e ∙ ordered.append_one c.own x (rest m);
    put = λ t. go (is_among same_restriction x.restriction (restrictions_of c.own)) refl t;
  }
    where
      this : (j : Bool) → is_among same_restriction x.restriction (restrictions_of c.own) ≡ j → add ≡ not j
      this j k = d ∙ first_role s at does n c.own (rest m) e i q ∙ ap not k

      go : (j : Bool) → is_among same_restriction x.restriction (restrictions_of c.own) ≡ j → T (every_of small_row (rows_of s opens)) → Appended b from (flat_map written_row (rows_in s opens (c.own ++ (x ∷ [])))) a' end'
      go true k t = kept s opens add at b from (rows_in s opens c.own) (rows_in s opens (c.own ++ (x ∷ []))) a end a' end' (sym (rows_more s opens c.own x true k)) (this true k) (c.put t) w
      go false k t =
          let f : Restriction → Row = row_for (names_in s) opens in
          let l : List Restriction = once same_restriction [] (restrictions_of c.own) in
          let one : Appended a end (written_row (f x.restriction)) a' end' = w.0 (this false k) n (c.own, rest m, e) (row_small s opens c.own (rest m) x e k t) in
          appended_as (appended_then (c.put t) one)
          (ap (λ (v : List ℕ). flat_map written_row (map f l) ++ v) (sym (append-nil (written_row (f x.restriction))))
          ∙ sym (flat_more written_row (map f l) (f x.restriction ∷ []))
          ∙ ap (flat_map written_row) (sym (map-append f l (x.restriction ∷ [])) ∙ sym (rows_more s opens c.own x false k)))

  turned : Rows s opens b from (end_at s at) next end' a'
  turned = go (is_name (kind_at s at)) (eqb does 4) refl refl (rest_turn s at does n c.within z)
    where
      go : (i q : Bool) → is_name (kind_at s at) ≡ i → eqb does 4 ≡ q → rest_of s at does n ≡ elim (i && q) [ true ↦ x ∷ rest (n + own_at s (end_at s at)) | false ↦ rest n ] → Rows s opens b from (end_at s at) next end' a'
      go true true i q e = role i q (n + own_at s (end_at s at)) (c.split ∙ ap (λ (l : List Standing). c.own ++ l) e)
      go true false i q e = idle (ap₂ ◌&&◌ i q) e
      go false q i j e = idle (ap (λ (u : Bool). u && eqb does 4) i) e

-- a token by its kind and its bytes
pub rows_turn : (s : List ℕ) (opens : ℕ) (b : List ℕ) (from at does end : ℕ) (a : List ℕ) (add : Bool) (k p e next : ℕ) (a' : List ℕ) (end' : ℕ) → Rows s opens b from at does end a → AtToken s at k p e → e ≤ length s → (k ≡ 0 → ⊥) →
    add ≡ adds_row s does p k (name_by k (take (e - p) (drop p s))) e → Put s opens at add a end a' end' → next ≡ sort_after does k → Rows s opens b from e next end' a'
rows_turn s opens b from at does end a add k p e next a' end' c t l z d w g =
    let same : adds_row s does p k (name_by k (take (e - p) (drop p s))) e ≡ adds_row s does (place_at s at) (kind_at s at) (name_at s at) (end_at s at) =
    ap₂ (λ (i j : ℕ). adds_row s does i j (name_by k (take (e - p) (drop p s))) e) t.1 t.0
    ∙ ap₂ (λ (m : Name) (j : ℕ). adds_row s does (place_at s at) (kind_at s at) m j) (token_name s at k p e t) t.2 in
    subst (λ (j : ℕ). Rows s opens b from j next end' a') (sym t.2)
    (subst (λ (j : ℕ). Rows s opens b from (end_at s at) j end' a') (sym (g ∙ ap (sort_after does) t.0))
    (turned s opens b from at does end a add a' end' c (λ y. z (t.0 ∙ y)) (d ∙ same) w (subst (λ (j : ℕ). j ≤ length s) t.2 l)))

-- the walk over the text, and what was written before its next stop
pub record Writing (s : List ℕ) (opens : ℕ) (b : List ℕ) (from : ℕ) (w : Walk) (end : ℕ) (a : List ℕ) : Type 0 where
  pub text : w.text.now ≡ s
  pub rows : Rows s opens b from w.at (does_number w.does) end a

pub writing_start : (s : List ℕ) (opens : ℕ) (b : List ℕ) (from : ℕ) (u w : Walk) → u.text.now ≡ s → u.at ≡ 0 → u.does ≡ Nothing → w ≡ u → Writing s opens b from w from b
writing_start s opens b from u w t i q e =
    subst (λ (w : Walk). Writing s opens b from w from b) (sym e)
    (record { text = t; rows = subst (λ (k : ℕ). Rows s opens b from k (does_number u.does) from b) (sym i) (subst (λ (k : Does). Rows s opens b from 0 (does_number k) from b) (sym q) (rows_start s opens b from)) })

module _ (s : List ℕ) (opens : ℕ) (b : List ℕ) (from : ℕ) (w v : Walk) (end : ℕ) (a : List ℕ) (c : Writing s opens b from w end a) where
  pub writing_end : Goes w None v → PutRows s opens b from a end
  writing_end g = rows_end s opens b from w.at (does_number w.does) end a c.rows (end_in s w v c.text g)

  module _ (x : Stop) (g : Goes w (Some x) v) where
    here : StopAt s w.at (does_number w.does) x
    here = stop_in s w v x c.text g

    pub stop_within : x.end ≤ length s
    stop_within = here.within

    pub stop_begins : x.at ≤ length s
    stop_begins = subst (λ (k : ℕ). k ≤ length s) (sym here.at_byte) c.rows.within

    turned_at : (add : Bool) (a' : List ℕ) (end' : ℕ) → add ≡ passes (row_in s x.place x.end) x → Put s opens w.at add a end a' end' → Writing s opens b from v end' a'
    unfolding adds_row
    turned_at add a' end' d p = record {
      text = g.1 ∙ c.text;
      rows =
          subst (λ (k : ℕ). Rows s opens b from k (does_number v.does) end' a') (sym g.2)
          (rows_turn s opens b from w.at (does_number w.does) end a add (kind_number x.kind) x.place x.end (does_number v.does) a' end' c.rows token here.within (λ z. here.some (sym here.kind ∙ z))
          (d ∙ passes_is (row_in s x.place x.end) s w.at (does_number w.does) x here
          ∙ ap₂ (λ (k : ℕ) (n : Name). is_name k && row_in s x.place x.end (mentioned (does_number w.does) n)) (sym here.kind) (sym (token_name s w.at (kind_number x.kind) x.place x.end token)))
          p g.3);
    }
      where
        token : AtToken s w.at (kind_number x.kind) x.place x.end
        token = (here.kind, here.place, here.end)

    -- a stop that adds no row
    pub writing_skip : passes (row_in s x.place x.end) x ≡ false → Writing s opens b from v end a
    writing_skip e = turned_at false a end (sym e) ((λ z. absurd (subst T (sym z) tt)), (λ z. appended_none a end))

    pub writing_none : None ≡ role_of x → Writing s opens b from v end a
    writing_none e =
        let p : Name → Bool = λ n. not (is_name (kind_at s x.end)) || eqb (first_row s (restricted n (by_name (name_at s x.end)))) x.place in
        writing_skip (sym (role_passes p x) ∙ ap (named_and p) (sym e))

    -- one that adds its row
    pub writing_put : (role : code.Name) (a' : List ℕ) (end' : ℕ) → Some role ≡ role_of x → passes (row_in s x.place x.end) x ≡ true → PutRow s opens x.at (written role) a end a' end' → Writing s opens b from v end' a'
    unfolding PutRow
    writing_put role a' end' i e p =
        let named : written role ≡ name_at s w.at = (subst (IsNamed s w.at) (go (eqb (does_number x.does) 4) i) here.named).1 in
        turned_at true a' end' (sym e) ((λ z. subst (λ (k : ℕ). PutRow s opens k (written role) a end a' end') here.at_byte p named), (λ z. absurd (subst T z tt)))
      where
        go : (b : Bool) → Some role ≡ elim b [ true ↦ x.name | false ↦ None ] → x.name ≡ Some role
        go true e = sym e
        go false e = absurd (none-some role (sym e))
