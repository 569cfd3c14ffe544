-- The machine by numbers is the machine of slots.
--
--   extend m ss, expect_append == what a construct asks for decides, whatever stands behind it
--   move_right, inside-right, ..  == the table's entries are the slots' moves, by one computed test each
--   flat q st                  == the slots of a state and of the states to come back to
--   Sane q st                  == the outermost state is that of a whole file, the others are inside a construct
--   run_is_check               == the two machines give one verdict
--   checked_run                == and so the verdict on a text
use mathlib.Core.Path.{◌≡◌, refl, sym, ap, ap₂, subst, ◌∙◌}
use mathlib.Core.Bool.{Bool, true, false, ◌&&◌, ◌||◌, not, true≢false}
use mathlib.Core.Logic.{◌⊎◌, inl, inr}
use mathlib.Core.List.{List, [], ◌∷◌, ◌++◌}
use Prim.Native.Nat.{ℕ, zero, suc, ◌+◌, ◌-◌, ◌≤◌, ◌<◌}
use native.Mathlib.Omega.{arith}
use lib.Dec.{T, eqb, eqb→eq, leb, leb→le, ltb, ltb→lt}
use lib.ListN.{length, drop}
use borrow.Author.Tests.{ne_eqb, lt-ltb, le-ltb, eqb-true, eqb-false, ltb-false}
use Rattle.el.specs.Test.{all_below}
use Rattle.el.specs.TestLaws.{and_left, and_right, all_below_at}
use Rattle.owl.specs.Token.{kind_of, place_at, kind_at, end_at}
use Rattle.owl.specs.TokenLaws.{kind_range}
use Rattle.owl.specs.Grammar.{Slot, left_s, right_s, equals_s, label_s, target_s, name_s, role_s, entity_s, ontology_s, class_s, classes_s, no_third_s, head_s, version_s, items_s, prefixes_s, insides, inside, Move, stop, on, is_name, begins_class, begins_item, unlisted, takes, takes_or, takes_more, expect, may_end, Verdict, verdict, check, checked}
use Rattle.owl.specs.SlotLaws.{slot_number, slot_means}
use Rattle.owl_text.specs.Levels.{states, slots_of, columns, column, moves, next, opener, inners, inner, end_verdict, run}

----------------------------------------------------------------------------------------------------
-- What stands behind a construct does not matter

abbrev extend : Move → List Slot → Move
extend (stop n) ss = stop n
extend (on us) ss = on (us ++ ss)

takes_extend : (b : Bool) (n : ℕ) (us ss : List Slot) → takes b n (us ++ ss) ≡ extend (takes b n us) ss
unfolding takes
takes_extend true n us ss = refl
takes_extend false n us ss = refl

takes_or_extend : (b : Bool) (us ss : List Slot) (m n : Move) → n ≡ extend m ss → takes_or b (us ++ ss) n ≡ extend (takes_or b us m) ss
unfolding takes_or
takes_or_extend true us ss m n e = refl
takes_or_extend false us ss m n e = e

takes_more_extend : (k : ℕ) (b : Bool) (us ss : List Slot) (m n : Move) → n ≡ extend m ss → takes_more k b (us ++ ss) n ≡ extend (takes_more k b us m) ss
unfolding takes_more
takes_more_extend k true us ss m n e = refl
takes_more_extend k false us ss m n e = go (eqb k 16)
  where
    go : (b : Bool) → elim b [ true ↦ stop 11 | false ↦ n ] ≡ extend (elim b [ true ↦ stop 11 | false ↦ m ]) ss
    go true = refl
    go false = e

third_extend : (b : Bool) (ss : List Slot) (m n : Move) → n ≡ extend m ss → elim b [ true ↦ stop 11 | false ↦ n ] ≡ extend (elim b [ true ↦ stop 11 | false ↦ m ]) ss
third_extend true ss m n e = refl
third_extend false ss m n e = e

expect_append : (k : ℕ) (l ss : List Slot) → may_end l ≡ false → expect k (l ++ ss) ≡ extend (expect k l) ss
unfolding expect may_end
expect_append k [] ss h = absurd (true≢false h)
expect_append k (left_s ∷ l) ss h = takes_extend (eqb k 1) 10 l ss
expect_append k (right_s ∷ l) ss h = takes_extend (eqb k 2) 10 l ss
expect_append k (equals_s ∷ l) ss h = takes_extend (eqb k 3) 10 l ss
expect_append k (label_s ∷ l) ss h = takes_extend (eqb k 15) 10 l ss
expect_append k (target_s ∷ l) ss h = takes_extend (eqb k 14) 10 l ss
expect_append k (name_s ∷ l) ss h = takes_extend (is_name k) 10 l ss
expect_append k (role_s ∷ l) ss h = takes_extend (is_name k) (unlisted k) l ss
expect_append k (entity_s ∷ l) ss h = takes_extend (eqb k 7 || eqb k 8) (unlisted k) l ss
expect_append k (ontology_s ∷ l) ss h = takes_extend (eqb k 5) 10 l ss
expect_append k (class_s ∷ l) ss h = takes_extend (begins_class k) (unlisted k) l ss
expect_append k (classes_s ∷ l) ss h = takes_more_extend k (begins_class k) (classes_s ∷ l) ss (expect k l) (expect k (l ++ ss)) (expect_append k l ss h)
expect_append k (no_third_s ∷ l) ss h = third_extend (begins_class k || eqb k 16) ss (expect k l) (expect k (l ++ ss)) (expect_append k l ss h)
expect_append k (head_s ∷ l) ss h = takes_or_extend (is_name k) (version_s ∷ l) ss (expect k l) (expect k (l ++ ss)) (expect_append k l ss h)
expect_append k (version_s ∷ l) ss h = takes_or_extend (is_name k) l ss (expect k l) (expect k (l ++ ss)) (expect_append k l ss h)
expect_append k (items_s ∷ l) ss h = takes_more_extend k (begins_item k) (items_s ∷ l) ss (expect k l) (expect k (l ++ ss)) (expect_append k l ss h)
expect_append k (prefixes_s ∷ l) ss h = takes_or_extend (eqb k 4) (prefixes_s ∷ l) ss (expect k l) (expect k (l ++ ss)) (expect_append k l ss h)

firm_append : (l ss : List Slot) → may_end l ≡ false → may_end (l ++ ss) ≡ false
unfolding may_end
firm_append [] ss h = absurd (true≢false h)
firm_append (left_s ∷ l) ss h = refl
firm_append (right_s ∷ l) ss h = refl
firm_append (equals_s ∷ l) ss h = refl
firm_append (label_s ∷ l) ss h = refl
firm_append (target_s ∷ l) ss h = refl
firm_append (name_s ∷ l) ss h = refl
firm_append (role_s ∷ l) ss h = refl
firm_append (entity_s ∷ l) ss h = refl
firm_append (ontology_s ∷ l) ss h = refl
firm_append (class_s ∷ l) ss h = refl
firm_append (classes_s ∷ l) ss h = firm_append l ss h
firm_append (no_third_s ∷ l) ss h = firm_append l ss h
firm_append (head_s ∷ l) ss h = firm_append l ss h
firm_append (version_s ∷ l) ss h = firm_append l ss h
firm_append (items_s ∷ l) ss h = firm_append l ss h
firm_append (prefixes_s ∷ l) ss h = firm_append l ss h

----------------------------------------------------------------------------------------------------
-- The table, by computation

abbrev same_slots : List Slot → List Slot → Bool
same_slots [] [] = true
same_slots [] (u ∷ us) = false
same_slots (s ∷ ss) [] = false
same_slots (s ∷ ss) (u ∷ us) = eqb (slot_number s) (slot_number u) && same_slots ss us

same_slots_means : (ss us : List Slot) → T (same_slots ss us) → ss ≡ us
same_slots_means [] [] t = refl
same_slots_means [] (u ∷ us) t = absurd t
same_slots_means (s ∷ ss) [] t = absurd t
same_slots_means (s ∷ ss) (u ∷ us) t =
    ap₂ (λ (x : Slot) (l : List Slot). x ∷ l) (slot_means s u (and_left (eqb (slot_number s) (slot_number u)) (same_slots ss us) t))
    (same_slots_means ss us (and_right (eqb (slot_number s) (slot_number u)) (same_slots ss us) t))

abbrev same_move : Move → ℕ → Bool
same_move (stop n) x = eqb x (80 + n)
same_move (on us) x = ltb x 28 && same_slots us (slots_of x)

both_below : (f : ℕ → ℕ → Bool) (m n q k : ℕ) → T (all_below m (λ q. all_below n (λ k. f q k))) → q < m → k < n → T (f q k)
both_below f m n q k t h l = all_below_at n k (λ k. f q k) (all_below_at m q (λ q. all_below n (λ k. f q k)) t h) l

-- each entry is the move that the slots make
entries_right : T (all_below 28 (λ q. all_below 18 (λ k. same_move (expect k (slots_of q)) (next q k))))
unfolding all_below slots_of states next column columns moves expect takes takes_or takes_more is_name begins_class begins_item unlisted
entries_right = tt

abbrev MoveRight : ℕ → ℕ → Move → Type 0
MoveRight q k m = ((n : ℕ) × (m ≡ stop n) × (next q k ≡ 80 + n)) ⊎ ((next q k < 28) × (m ≡ on (slots_of (next q k))))

move_right : (q k : ℕ) → q < 28 → k < 18 → MoveRight q k (expect k (slots_of q))
move_right q k h l = go (expect k (slots_of q)) (both_below (λ q k. same_move (expect k (slots_of q)) (next q k)) 28 18 q k entries_right h l)
  where
    go : (m : Move) → T (same_move m (next q k)) → MoveRight q k m
    go (stop n) t = inl (n, refl, eqb→eq (next q k) (80 + n) t)
    go (on us) t =
        inr (
          ltb→lt (next q k) 28 (and_left (ltb (next q k) 28) (same_slots us (slots_of (next q k))) t),
          ap on (same_slots_means us (slots_of (next q k)) (and_right (ltb (next q k) 28) (same_slots us (slots_of (next q k))) t)),
        )

-- a word's body begins at its inner state; other tokens have none
bodies_right : T (all_below 18 (λ k. same_slots (inside k) (elim (opener k) [ true ↦ slots_of (inner k) | false ↦ [] ])))
unfolding all_below inside insides opener inner inners slots_of states
bodies_right = tt

inside_opener : (k : ℕ) → k < 18 → opener k ≡ true → inside k ≡ slots_of (inner k)
inside_opener k h o =
    same_slots_means (inside k) (elim (opener k) [ true ↦ slots_of (inner k) | false ↦ [] ])
    (all_below_at 18 k (λ k. same_slots (inside k) (elim (opener k) [ true ↦ slots_of (inner k) | false ↦ [] ])) bodies_right h)
    ∙ ap (λ (b : Bool). elim b [ true ↦ slots_of (inner k) | false ↦ [] ]) o

inside_plain : (k : ℕ) → k < 18 → opener k ≡ false → inside k ≡ []
inside_plain k h o =
    same_slots_means (inside k) (elim (opener k) [ true ↦ slots_of (inner k) | false ↦ [] ])
    (all_below_at 18 k (λ k. same_slots (inside k) (elim (opener k) [ true ↦ slots_of (inner k) | false ↦ [] ])) bodies_right h)
    ∙ ap (λ (b : Bool). elim b [ true ↦ slots_of (inner k) | false ↦ [] ]) o

-- inner states are inside a construct
inners_right : T (all_below 18 (λ k. not (opener k) || (leb 2 (inner k) && ltb (inner k) 28)))
unfolding all_below opener inner inners
inners_right = tt

inner_right : (k : ℕ) → k < 18 → opener k ≡ true → (2 ≤ inner k) × (inner k < 28)
inner_right k h o = go (opener k) o (all_below_at 18 k (λ k. not (opener k) || (leb 2 (inner k) && ltb (inner k) 28)) inners_right h)
  where
    go : (b : Bool) → b ≡ true → T (not b || (leb 2 (inner k) && ltb (inner k) 28)) → (2 ≤ inner k) × (inner k < 28)
    go true e t = (leb→le 2 (inner k) (and_left (leb 2 (inner k)) (ltb (inner k) 28) t), ltb→lt (inner k) 28 (and_right (leb 2 (inner k)) (ltb (inner k) 28) t))
    go false e t = absurd (true≢false (sym e))

abbrev same_bool : Bool → Bool → Bool
same_bool true b = b
same_bool false b = not b

same_bool_means : (a b : Bool) → T (same_bool a b) → a ≡ b
same_bool_means true true t = refl
same_bool_means true false t = absurd t
same_bool_means false true t = absurd t
same_bool_means false false t = refl

-- the text may end in state 1 alone
ends_right : T (all_below 28 (λ q. same_bool (may_end (slots_of q)) (eqb q 1)))
unfolding all_below may_end slots_of states
ends_right = tt

end_right : (q : ℕ) → q < 28 → may_end (slots_of q) ≡ eqb q 1
end_right q h = same_bool_means (may_end (slots_of q)) (eqb q 1) (all_below_at 28 q (λ q. same_bool (may_end (slots_of q)) (eqb q 1)) ends_right h)

-- a token other than `)` stays inside a construct, or outside of all
sides_right : T (all_below 28 (λ q. all_below 18 (λ k. not (ltb (next q k) 28) || (eqb k 2 || same_bool (ltb q 2) (ltb (next q k) 2)))))
unfolding all_below next column columns moves
sides_right = tt

side_right : (q k : ℕ) → q < 28 → k < 18 → next q k < 28 → (k ≡ 2 → ⊥) → ltb q 2 ≡ ltb (next q k) 2
side_right q k h l m n =
    go (ltb (next q k) 28) (eqb k 2) (lt-ltb (next q k) 28 m) (ne_eqb k 2 n)
    (both_below (λ q k. not (ltb (next q k) 28) || (eqb k 2 || same_bool (ltb q 2) (ltb (next q k) 2))) 28 18 q k sides_right h l)
  where
    go : (a b : Bool) → a ≡ true → b ≡ false → T (not a || (b || same_bool (ltb q 2) (ltb (next q k) 2))) → ltb q 2 ≡ ltb (next q k) 2
    go true true d e t = absurd (true≢false e)
    go true false d e t = same_bool_means (ltb q 2) (ltb (next q k) 2) t
    go false b d e t = absurd (true≢false (sym d))

-- `)` ends a construct, and stands in one
closes_right : T (all_below 28 (λ q. not (ltb (next q 2) 28) || (eqb (next q 2) 1 && leb 2 q)))
unfolding all_below next column columns moves
closes_right = tt

close_right : (q : ℕ) → q < 28 → next q 2 < 28 → (next q 2 ≡ 1) × (2 ≤ q)
close_right q h m = go (ltb (next q 2) 28) (lt-ltb (next q 2) 28 m) (all_below_at 28 q (λ q. not (ltb (next q 2) 28) || (eqb (next q 2) 1 && leb 2 q)) closes_right h)
  where
    go : (a : Bool) → a ≡ true → T (not a || (eqb (next q 2) 1 && leb 2 q)) → (next q 2 ≡ 1) × (2 ≤ q)
    go true d t = (eqb→eq (next q 2) 1 (and_left (eqb (next q 2) 1) (leb 2 q) t), leb→le 2 q (and_right (eqb (next q 2) 1) (leb 2 q) t))
    go false d t = absurd (true≢false (sym d))

----------------------------------------------------------------------------------------------------
-- One state and those to come back to

abbrev pub flat : ℕ → List ℕ → List Slot
flat q [] = slots_of q
flat q (p ∷ ps) = slots_of q ++ flat p ps

abbrev pub Sane : ℕ → List ℕ → Type 0
Sane q [] = q < 2
Sane q (p ∷ ps) = (2 ≤ q) × (q < 28) × Sane p ps

sane_small : (q : ℕ) (st : List ℕ) → Sane q st → q < 28
sane_small q [] h = omega arith
sane_small q (p ∷ ps) h = h.1

firm : (q : ℕ) → 2 ≤ q → q < 28 → may_end (slots_of q) ≡ false
firm q h l = end_right q l ∙ ne_eqb q 1 (λ e. let z : ⊥ = omega arith in z)

end_flat : (q : ℕ) (st : List ℕ) → Sane q st → may_end (flat q st) ≡ (eqb (length st) 0 && eqb q 1)
end_flat q [] h = end_right q (let z : q < 28 = omega arith in z)
end_flat q (p ∷ ps) h =
    firm_append (slots_of q) (flat p ps) (firm q h.0 h.1) ∙ ap (λ (b : Bool). b && eqb q 1) (sym (ne_eqb (suc (length ps)) 0 (λ e. let z : ⊥ = omega arith in z)))

-- a token's move, whatever stands behind
expect_flat : (q k : ℕ) (st : List ℕ) → Sane q st → (m : Move) → expect k (slots_of q) ≡ m → expect k (flat q st) ≡ elim st [ [] ↦ m | p ∷ ps ↦ extend m (flat p ps) ]
expect_flat q k [] h m e = e
expect_flat q k (p ∷ ps) h m e = expect_append k (slots_of q) (flat p ps) (firm q h.0 h.1) ∙ ap (λ (x : Move). extend x (flat p ps)) e

stop_flat : (q k n : ℕ) (st : List ℕ) → Sane q st → expect k (slots_of q) ≡ stop n → expect k (flat q st) ≡ stop n
stop_flat q k n [] h e = expect_flat q k [] h (stop n) e
stop_flat q k n (p ∷ ps) h e = expect_flat q k (p ∷ ps) h (stop n) e

on_flat : (q k x : ℕ) (st : List ℕ) → Sane q st → expect k (slots_of q) ≡ on (slots_of x) → expect k (flat q st) ≡ on (flat x st)
on_flat q k x [] h e = expect_flat q k [] h (on (slots_of x)) e
on_flat q k x (p ∷ ps) h e = expect_flat q k (p ∷ ps) h (on (slots_of x)) e

sane_next : (q k : ℕ) (st : List ℕ) → Sane q st → k < 18 → next q k < 28 → (k ≡ 2 → ⊥) → Sane (next q k) st
sane_next q k [] h l m n = let small : q < 28 = omega arith in ltb→lt (next q k) 2 (subst T (sym (lt-ltb q 2 h) ∙ side_right q k small l m n) tt)
sane_next q k (p ∷ ps) h l m n = (ltb-false (next q k) 2 (sym (side_right q k h.1 l m n) ∙ le-ltb q 2 h.0), m, h.2)

----------------------------------------------------------------------------------------------------
-- One verdict

kind_of_small : (l : List ℕ) → kind_of l < 18
unfolding kind_of
kind_of_small [] = omega arith
kind_of_small (b ∷ l) = (kind_range b l).1

pub kind_small : (s : List ℕ) (at : ℕ) → kind_at s at < 18
unfolding kind_at
kind_small s at = kind_of_small (drop (place_at s at) s)

not_close : (k : ℕ) → opener k ≡ true → k ≡ 2 → ⊥
unfolding opener
not_close k o e = true≢false (sym o ∙ ap opener e)

-- a construct that is closed asks for nothing
flat_closed : (x p : ℕ) (ps : List ℕ) → x ≡ 1 → flat p ps ≡ flat x (p ∷ ps)
unfolding slots_of states
flat_closed x p ps e = ap (λ (j : ℕ). slots_of j ++ flat p ps) (sym e)

module _ (s : List ℕ) where
  -- both machines after a token of kind k
  abbrev numbers : ℕ → ℕ → ℕ → ℕ → List ℕ → Verdict
  numbers f at k q st =
      elim (ltb 79 (next q k)) [
        | true ↦ verdict (next q k - 80) (place_at s at)
        | false ↦ elim (opener k) [
          | true ↦ run s f (end_at s at) (inner k) (next q k ∷ st)
          | false ↦ elim (eqb k 2) [
            | true ↦ elim st [ [] ↦ run s f (end_at s at) (next q k) [] | p ∷ ps ↦ run s f (end_at s at) p ps ]
            | false ↦ run s f (end_at s at) (next q k) st
          ]
        ]
      ]

  abbrev slots : ℕ → ℕ → ℕ → Move → Verdict
  slots f at k m = elim m [ stop n ↦ verdict n (place_at s at) | on us ↦ check s f (end_at s at) (inside k ++ us) ]

  abbrev Same : ℕ → Type 0
  Same f = (at q : ℕ) (st : List ℕ) → Sane q st → run s f at q st ≡ check s f at (flat q st)

  -- where the token is taken
  goes_on : (f at k q : ℕ) (st : List ℕ) → Same f → Sane q st → k < 18 → next q k < 28 → (o c : Bool) → opener k ≡ o → eqb k 2 ≡ c →
      elim o [
        | true ↦ run s f (end_at s at) (inner k) (next q k ∷ st)
        | false ↦ elim c [ true ↦ elim st [ [] ↦ run s f (end_at s at) (next q k) [] | p ∷ ps ↦ run s f (end_at s at) p ps ] | false ↦ run s f (end_at s at) (next q k) st ]
      ] ≡ check s f (end_at s at) (inside k ++ flat (next q k) st)
  goes_on f at k q st ih h l m true c o d =
      ih (end_at s at) (inner k) (next q k ∷ st) ((inner_right k l o).0, (inner_right k l o).1, sane_next q k st h l m (not_close k o))
      ∙ ap (λ (us : List Slot). check s f (end_at s at) (us ++ flat (next q k) st)) (sym (inside_opener k l o))
  goes_on f at k q [] ih h l m false true o d =
      absurd (let e : k ≡ 2 = eqb-true k 2 d in let c = close_right q (sane_small q [] h) (subst (λ (j : ℕ). next q j < 28) e m) in let w : 2 ≤ q = c.1 in let v : q < 2 = h in let z : ⊥ = omega arith in z)
  goes_on f at k q (p ∷ ps) ih h l m false true o d =
      ih (end_at s at) p ps h.2
      ∙ ap (λ (us : List Slot). check s f (end_at s at) us) (flat_closed (next q k) p ps (ap (next q) (eqb-true k 2 d) ∙ (close_right q h.1 (subst (λ (j : ℕ). next q j < 28) (eqb-true k 2 d) m)).0))
      ∙ ap (λ (us : List Slot). check s f (end_at s at) (us ++ flat (next q k) (p ∷ ps))) (sym (inside_plain k l o))
  goes_on f at k q st ih h l m false false o d =
      ih (end_at s at) (next q k) st (sane_next q k st h l m (eqb-false k 2 d))
      ∙ ap (λ (us : List Slot). check s f (end_at s at) (us ++ flat (next q k) st)) (sym (inside_plain k l o))

  at_token_lem : (f at k q : ℕ) (st : List ℕ) → Same f → Sane q st → k < 18 → numbers f at k q st ≡ slots f at k (expect k (flat q st))
  at_token_lem f at k q st ih h l = go (move_right q k (sane_small q st h) l)
    where
      go : MoveRight q k (expect k (slots_of q)) → numbers f at k q st ≡ slots f at k (expect k (flat q st))
      go (inl (n, e, x)) =
          let w : 79 < next q k = omega arith in
          let z : next q k - 80 ≡ n = omega arith in
          ap (λ (b : Bool). elim b [
            | true ↦ verdict (next q k - 80) (place_at s at)
            | false ↦ elim (opener k) [
              | true ↦ run s f (end_at s at) (inner k) (next q k ∷ st)
              | false ↦ elim (eqb k 2) [
                | true ↦ elim st [ [] ↦ run s f (end_at s at) (next q k) [] | p ∷ ps ↦ run s f (end_at s at) p ps ]
                | false ↦ run s f (end_at s at) (next q k) st
              ]
            ]
          ]) (lt-ltb 79 (next q k) w)
          ∙ ap (λ (j : ℕ). verdict j (place_at s at)) z
          ∙ ap (slots f at k) (sym (stop_flat q k n st h e))
      go (inr (m, e)) =
          let w : next q k ≤ 79 = omega arith in
          ap (λ (b : Bool). elim b [
            | true ↦ verdict (next q k - 80) (place_at s at)
            | false ↦ elim (opener k) [
              | true ↦ run s f (end_at s at) (inner k) (next q k ∷ st)
              | false ↦ elim (eqb k 2) [
                | true ↦ elim st [ [] ↦ run s f (end_at s at) (next q k) [] | p ∷ ps ↦ run s f (end_at s at) p ps ]
                | false ↦ run s f (end_at s at) (next q k) st
              ]
            ]
          ]) (le-ltb 79 (next q k) w)
          ∙ goes_on f at k q st ih h l m (opener k) (eqb k 2) refl refl
          ∙ ap (slots f at k) (sym (on_flat q k (next q k) st h e))

  run_is_check : (f : ℕ) → Same f
  unfolding run check end_verdict
  run_is_check zero at q st h = refl
  run_is_check (suc f) at q st h = go (eqb (kind_at s at) 0) (at_token_lem f at (kind_at s at) q st (run_is_check f) h (kind_small s at))
    where
      go : (b : Bool) → numbers f at (kind_at s at) q st ≡ slots f at (kind_at s at) (expect (kind_at s at) (flat q st)) →
          ◌≡◌ {A = Verdict} (elim b [ true ↦ end_verdict s q (length st) | false ↦ numbers f at (kind_at s at) q st ])
          (elim b [ true ↦ elim (may_end (flat q st)) [ true ↦ verdict 0 0 | false ↦ verdict 10 (length s) ] | false ↦ slots f at (kind_at s at) (expect (kind_at s at) (flat q st)) ])
      go true e = ap (λ (b : Bool). elim b [ true ↦ verdict 0 0 | false ↦ verdict 10 (length s) ]) (sym (end_flat q st h))
      go false e = e

  pub checked_run : checked s ≡ run s (suc (length s)) 0 0 []
  unfolding checked slots_of states
  checked_run = sym (run_is_check (suc (length s)) 0 0 [] (omega arith))
