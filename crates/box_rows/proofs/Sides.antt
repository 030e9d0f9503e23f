-- Which of two ends of one side is further out.
use Rattle.std.proofs.Common.{◌≡◌, ◌⊎◌, Bool, true, false, cond, refl, ap, subst, inl, inr}
use Rattle.std.proofs.lemmas.Bool.{cases_Bool}
use Rattle.num_ends.specs.declared.ends.End.{End}
use Rattle.num_ends.proofs.Members.{lower_covers_refl, lower_covers_total, lower_covers_trans, upper_covers_refl, upper_covers_total, upper_covers_trans}
use Rattle.box_model.specs.Demands.{covers, infinity}
use Rattle.box_model.specs.declared.caps.Side.{Side}
use Rattle.box_model.specs.declared.caps.Side.TheVariants.{Upper, Lower}
use Rattle.box_rows.specs.Ranks.{outer}

pub side_refl : (side : Side) (a : End) → covers side a a ≡ true
side_refl Upper a = upper_covers_refl a
side_refl Lower a = lower_covers_refl a

pub side_trans : (side : Side) (a b c : End) → covers side a b ≡ true → covers side b c ≡ true → covers side a c ≡ true
side_trans Upper a b c h k = upper_covers_trans a b c h k
side_trans Lower a b c h k = lower_covers_trans a b c h k

pub side_total : (side : Side) (a b : End) → covers side a b ≡ false → covers side b a ≡ true
side_total Upper a b h = upper_covers_total a b h
side_total Lower a b h = lower_covers_total a b h

-- the infinite end is as far out as each
pub infinity_covers : (side : Side) (a : End) → covers side (infinity side) a ≡ true
infinity_covers Upper a = refl
infinity_covers Lower a = refl

pub outer_first : (side : Side) (a b : End) → covers side (outer side a b) a ≡ true
outer_first side a b =
    elim (cases_Bool (covers side a b)) [
      | inl h ↦ rw (ap (λ (v : Bool). cond v a b) h) (side_refl side a)
      | inr h ↦ rw (ap (λ (v : Bool). cond v a b) h) (side_total side a b h)
    ]

pub outer_second : (side : Side) (a b : End) → covers side (outer side a b) b ≡ true
outer_second side a b =
    elim (cases_Bool (covers side a b)) [
      | inl h ↦ rw (ap (λ (v : Bool). cond v a b) h) h
      | inr h ↦ rw (ap (λ (v : Bool). cond v a b) h) (side_refl side b)
    ]

pub outer_either : (side : Side) (a b e : End) → covers side (outer side a b) e ≡ true → (covers side a e ≡ true) ⊎ (covers side b e ≡ true)
outer_either side a b e k =
    elim (cases_Bool (covers side a b)) [
      | inl h ↦ inl (subst (λ (c : End). covers side c e ≡ true) (ap (λ (v : Bool). cond v a b) h) k)
      | inr h ↦ inr (subst (λ (c : End). covers side c e ≡ true) (ap (λ (v : Bool). cond v a b) h) k)
    ]

pub outer_within : (side : Side) (a b e : End) → covers side e a ≡ true → covers side e b ≡ true → covers side e (outer side a b) ≡ true
outer_within side a b e h k =
    elim (cases_Bool (covers side a b)) [
      | inl c ↦ rw (ap (λ (v : Bool). cond v a b) c) h
      | inr c ↦ rw (ap (λ (v : Bool). cond v a b) c) k
    ]
