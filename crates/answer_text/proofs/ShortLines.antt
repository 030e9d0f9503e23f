-- Boxes that lie within each other have one short line.
use Rattle.std.proofs.Common.{◌≡◌, ℕ, suc, ◌<◌, ◌++◌, ◌&&◌, Bool, true, if◌then◌else◌, List, [], ◌∷◌, length, get_or, zip, flat_map, codes, refl, ap, ap₂, subst, arith}
use Rattle.std.proofs.lemmas.Bool.{and_parts, both_ways}
use Rattle.num_ends.proofs.DecimalOrder.{most_both_same, most_not_less}
use Rattle.num_ends.proofs.Trimmed.{same_trimmed}
use Rattle.num_ends.specs.Decimal.{Decimal, is_at_most, is_less}
use Rattle.num_ends.specs.Ends.{Interval, is_within, lower_covers, upper_covers, whole_line}
use Rattle.num_ends.specs.Texts.{decimal_text, interval_text, lower_text, trimmed_text, upper_text}
use Rattle.num_ends.specs.declared.ends.End.{End}
use Rattle.num_ends.specs.declared.ends.End.TheVariants.{NegInf, Excl, Incl, PosInf}
use Rattle.ground_task.specs.declared.raw.RawTask.{RawTask}
use Rattle.box_model.specs.Boxes.{fact_in, fluent_in, is_may_within, LiesWithin}
use Rattle.box_model.specs.declared.state_box.May.{May}
use Rattle.box_model.specs.declared.state_box.May.TheVariants.{True, False, Any}
use Rattle.box_model.specs.declared.state_box.StateBox.{StateBox}
use Rattle.cert_text.specs.Lines.{fact_part, fluent_part, is_infinite, is_unbounded, part_text, short_box_line}
use Rattle.cert_text.specs.declared.cert.Version.TheVariants.{Short}

-- ---- ends: what is written of an end, and whether it is infinite

same_decimal : (a b : Decimal) → is_at_most a b ≡ true → is_at_most b a ≡ true → decimal_text a ≡ decimal_text b
unfolding decimal_text
same_decimal a b h k = ap trimmed_text (same_trimmed a b (most_both_same a b h k))

no_less : {P : Type 0} (a b : Decimal) → is_less a b ≡ true → is_at_most b a ≡ true → P
no_less a b h k = absurd (both_ways (is_less a b) (most_not_less b a k) h)

lower_said : (l k : End) → lower_covers l k ≡ true → lower_covers k l ≡ true → (lower_text l ≡ lower_text k) × (is_infinite l ≡ is_infinite k)
lower_said NegInf NegInf h w = (refl, refl)
lower_said NegInf (Excl b) h w = cc
lower_said NegInf (Incl b) h w = cc
lower_said NegInf PosInf h w = cc
lower_said (Excl a) NegInf h w = cc
lower_said (Excl a) (Excl b) h w = (ap (λ (t : List ℕ). codes "(" ++ t) (same_decimal a b h w), refl)
lower_said (Excl a) (Incl b) h w = no_less a b h w
lower_said (Excl a) PosInf h w = cc
lower_said (Incl a) NegInf h w = cc
lower_said (Incl a) (Excl b) h w = no_less b a w h
lower_said (Incl a) (Incl b) h w = (ap (λ (t : List ℕ). codes "[" ++ t) (same_decimal a b h w), refl)
lower_said (Incl a) PosInf h w = cc
lower_said PosInf NegInf h w = cc
lower_said PosInf (Excl b) h w = cc
lower_said PosInf (Incl b) h w = cc
lower_said PosInf PosInf h w = (refl, refl)

upper_said : (u v : End) → upper_covers u v ≡ true → upper_covers v u ≡ true → (upper_text u ≡ upper_text v) × (is_infinite u ≡ is_infinite v)
upper_said PosInf PosInf h w = (refl, refl)
upper_said PosInf (Excl b) h w = cc
upper_said PosInf (Incl b) h w = cc
upper_said PosInf NegInf h w = cc
upper_said (Excl a) PosInf h w = cc
upper_said (Excl a) (Excl b) h w = (ap (λ (t : List ℕ). t ++ codes ")") (same_decimal a b w h), refl)
upper_said (Excl a) (Incl b) h w = no_less b a h w
upper_said (Excl a) NegInf h w = cc
upper_said (Incl a) PosInf h w = cc
upper_said (Incl a) (Excl b) h w = no_less a b w h
upper_said (Incl a) (Incl b) h w = (ap (λ (t : List ℕ). t ++ codes "]") (same_decimal a b w h), refl)
upper_said (Incl a) NegInf h w = cc
upper_said NegInf PosInf h w = cc
upper_said NegInf (Excl b) h w = cc
upper_said NegInf (Incl b) h w = cc
upper_said NegInf NegInf h w = (refl, refl)

-- ---- parts

fluent_said : (name : List ℕ) (i j : Interval) → is_within i j ≡ true → is_within j i ≡ true → fluent_part Short name i ≡ fluent_part Short name j
fluent_said name i j h k =
    let p = and_parts (lower_covers j.0 i.0) _ h in
    let q = and_parts (lower_covers i.0 j.0) _ k in
    let lower = lower_said i.0 j.0 q.0 p.0 in
    let upper = upper_said i.1 j.1 q.1 p.1 in
    let unbounded : is_unbounded i ≡ is_unbounded j = ap₂ (λ (a b : Bool). a && b) lower.1 upper.1 in
    let text : interval_text i ≡ interval_text j = ap₂ (λ (l u : List ℕ). l ++ codes "," ++ u) lower.0 upper.0 in
    ap₂ (λ (b : Bool) (said : List ℕ). if b then [] else part_text name said) unbounded text

same_may : (m n : May) → is_may_within m n ≡ true → is_may_within n m ≡ true → m ≡ n
same_may True True h k = refl
same_may True False h k = cc
same_may True Any h k = cc
same_may False True h k = cc
same_may False False h k = refl
same_may False Any h k = cc
same_may Any True h k = cc
same_may Any False h k = cc
same_may Any Any h k = refl

same_parts : {X : Type 0} (d : X) (say : List ℕ → X → List ℕ) (names : List (List ℕ)) (xs ys : List X) → length xs ≡ length ys → ((n : ℕ) (name : List ℕ) → n < length xs → say name (get_or xs n d) ≡ say name (get_or ys n d))
    → flat_map (λ part. say part.0 part.1) (zip names xs) ≡ flat_map (λ part. say part.0 part.1) (zip names ys)
same_parts d say [] xs ys h same = refl
same_parts d say (name ∷ names) [] [] h same = refl
same_parts d say (name ∷ names) [] (y ∷ ys) h same = cc
same_parts d say (name ∷ names) (x ∷ xs) [] h same = cc
same_parts d say (name ∷ names) (x ∷ xs) (y ∷ ys) h same =
    ap₂ (λ (t r : List ℕ). t ++ r) (same 0 name (omega arith)) (same_parts d say names xs ys (omega arith) (λ n other l. same (suc n) other (omega arith)))

pub one_short_line : (raw : RawTask) (b c : StateBox) → LiesWithin b c → LiesWithin c b → short_box_line raw b ≡ short_box_line raw c
one_short_line raw b c h k =
    ap₂ (λ (f x : List ℕ). codes "box" ++ f ++ x ++ codes "\n")
    (same_parts Any (fact_part Short) raw.facts b.facts c.facts h.as_many_facts
    (λ n name l. ap (fact_part Short name) (same_may (fact_in b n) (fact_in c n) (h.facts n l) (k.facts n (subst (λ (m : ℕ). n < m) h.as_many_facts l)))))
    (same_parts whole_line (fluent_part Short) raw.fluents b.fluents c.fluents h.as_many_fluents
    (λ n name l. fluent_said name (fluent_in b n) (fluent_in c n) (h.fluents n l) (k.fluents n (subst (λ (m : ℕ). n < m) h.as_many_fluents l))))
