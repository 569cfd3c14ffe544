-- Where brackets are closed, stop by stop.
--
--   Closing == the brackets that are open at a walk are `depth`; what is left behind from the start is what is left behind from here
--   closing_start, closing_turn, closing_stop, closing_end == stop by stop
use Rattle.std.specs.Prelude.{◌≡◌, List, ℕ, ◌+◌, ◌≤◌, ◌<◌, length, Some, None}
use Rattle.std.proofs.Common.{sym, ap, subst, ◌∙◌, arith}
use Rattle.owl.specs.Token.{kind_at}
use Rattle.owl_token.specs.Kind.{kind_number}
use Rattle.owl_name.specs.declared.walks.Stop.{Stop}
use Rattle.owl_name.specs.declared.walks.Walk.{Walk}
use Rattle.owl_name.specs.Walk.{does_number, StopAt, Goes}
use Rattle.owl_name.proofs.RestLaws.{AtToken, stop_in, end_in}
use Rattle.owl_class.specs.Ends.{rest_tokens, deeper, skip, Jumps}
use Rattle.owl_class.proofs.EndLaws.{jumps_start, jumps_turn, deeper_le, skip_nothing, skip_stop, skip_on}

pub record Closing (s : List ℕ) (from : ℕ) (w : Walk) (end depth : ℕ) : Type 0 where
  pub text : w.text.now ≡ s
  pub at : end ≡ w.at
  pub within : w.at ≤ length s
  pub few : depth ≤ w.at
  pub left : skip 0 (rest_tokens s from) ≡ skip depth (rest_tokens s w.at)
  pub jumps : Jumps s from w.at

abbrev pub Closed : List ℕ → ℕ → ℕ → Type 0
Closed s from e = (rest_tokens s e ≡ skip 0 (rest_tokens s from)) × (e ≤ length s) × Jumps s from e

pub at_stop : (s : List ℕ) (at q : ℕ) (x : Stop) → StopAt s at q x → AtToken s at (kind_number x.kind) x.place x.end
at_stop s at q x t = (t.kind, t.place, t.end)

pub stop_some : (s : List ℕ) (at q : ℕ) (x : Stop) → StopAt s at q x → kind_number x.kind ≡ 0 → ⊥
stop_some s at q x t z = t.some (sym t.kind ∙ z)

pub closing_start : (s : List ℕ) (from : ℕ) (u w : Walk) → from ≤ length s → u.text.now ≡ s → u.at ≡ from → w ≡ u → Closing s from w from 0
closing_start s from u w h t a e = subst (λ (w : Walk). Closing s from w from 0) (sym e) (record {
  text = t;
  at = sym a;
  within = omega arith;
  few = omega arith;
  left = ap (λ (b : ℕ). skip 0 (rest_tokens s b)) (sym a);
  jumps = subst (Jumps s from) (sym a) (jumps_start s from);
})

module _ (s : List ℕ) (from end depth : ℕ) (w v : Walk) (c : Closing s from w end depth) where
  pub closing_end : Goes w None v → Closed s from end
  closing_end g =
      let z : kind_at s w.at ≡ 0 = end_in s w v c.text g in
      subst (Closed s from) (sym c.at) (sym (c.left ∙ skip_nothing s w.at depth z), c.within, c.jumps)

  module _ (x : Stop) (g : Goes w (Some x) v) (d : ℕ) (f : d ≡ deeper (kind_number x.kind) depth) where
    t : StopAt s w.at (does_number w.does) x
    t = stop_in s w v x c.text g

    jumps : Jumps s from x.end
    jumps = jumps_turn s from w.at (kind_number x.kind) x.place x.end (at_stop s w.at (does_number w.does) x t) (stop_some s w.at (does_number w.does) x t) c.jumps

    pub closing_stop : d ≡ 0 → Closed s from x.end
    closing_stop y = (
      sym (c.left ∙ skip_stop s w.at depth (kind_number x.kind) x.place x.end d (at_stop s w.at (does_number w.does) x t) c.within (stop_some s w.at (does_number w.does) x t) f y),
      t.within,
      jumps,
    )

    pub closing_turn : (d ≡ 0 → ⊥) → Closing s from v x.end d
    closing_turn y =
        let a : v.at ≡ x.end = g.2 in
        let goes : w.at < x.end = t.goes in
        let small : deeper (kind_number x.kind) depth ≤ depth + 1 = deeper_le (kind_number x.kind) depth in
        let few : depth ≤ w.at = c.few in
        let within : x.end ≤ length s = t.within in record {
          text = g.1 ∙ c.text;
          at = sym a;
          within = omega arith;
          few = omega arith;
          left =
              c.left ∙ skip_on s w.at depth (kind_number x.kind) x.place x.end d (at_stop s w.at (does_number w.does) x t) c.within (stop_some s w.at (does_number w.does) x t) f y
              ∙ ap (λ (b : ℕ). skip d (rest_tokens s b)) (sym a);
          jumps = subst (Jumps s from) (sym a) jumps;
        }
