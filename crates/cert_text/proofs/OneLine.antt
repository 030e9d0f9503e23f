-- Boxes that lie within each other have one line.
use Rattle.std.proofs.Common.{◌≡◌, ℕ, suc, ◌<◌, ◌++◌, true, List, [], ◌∷◌, length, get_or, zip, flat_map, codes, refl, ap, ap₂, subst, arith}
use Rattle.std.proofs.lemmas.Bool.{and_parts, both_ways}
use Rattle.num_ends.specs.Decimal.{Decimal, is_at_most, is_less}
use Rattle.num_ends.specs.Ends.{Interval, is_within, lower_covers, upper_covers, whole_line}
use Rattle.num_ends.specs.Texts.{decimal_text, interval_text, lower_text, trimmed_text, upper_text}
use Rattle.num_ends.specs.declared.ends.End.{End}
use Rattle.num_ends.specs.declared.ends.End.TheVariants.{NegInf, Excl, Incl, PosInf}
use Rattle.num_ends.proofs.DecimalOrder.{most_both_same, most_not_less}
use Rattle.num_ends.proofs.Trimmed.{same_trimmed}
use Rattle.ground_task.specs.declared.raw.RawTask.{RawTask}
use Rattle.box_model.specs.Boxes.{fact_in, fluent_in, is_may_within, LiesWithin}
use Rattle.box_model.specs.declared.state_box.May.{May}
use Rattle.box_model.specs.declared.state_box.May.TheVariants.{True, False, Any}
use Rattle.box_model.specs.declared.state_box.StateBox.{StateBox}
use Rattle.cert_text.specs.Lines.{box_line, may_text, part_text}

-- ---- ends

same_decimal : (a b : Decimal) → is_at_most a b ≡ true → is_at_most b a ≡ true → decimal_text a ≡ decimal_text b
unfolding decimal_text
same_decimal a b h k = ap trimmed_text (same_trimmed a b (most_both_same a b h k))

no_less : {P : Type 0} (a b : Decimal) → is_less a b ≡ true → is_at_most b a ≡ true → P
no_less a b h k = absurd (both_ways (is_less a b) (most_not_less b a k) h)

same_lower : (l k : End) → lower_covers l k ≡ true → lower_covers k l ≡ true → lower_text l ≡ lower_text k
same_lower NegInf NegInf h w = refl
same_lower NegInf (Excl b) h w = cc
same_lower NegInf (Incl b) h w = cc
same_lower NegInf PosInf h w = cc
same_lower (Excl a) NegInf h w = cc
same_lower (Excl a) (Excl b) h w = ap (λ t. codes "(" ++ t) (same_decimal a b h w)
same_lower (Excl a) (Incl b) h w = no_less a b h w
same_lower (Excl a) PosInf h w = cc
same_lower (Incl a) NegInf h w = cc
same_lower (Incl a) (Excl b) h w = no_less b a w h
same_lower (Incl a) (Incl b) h w = ap (λ t. codes "[" ++ t) (same_decimal a b h w)
same_lower (Incl a) PosInf h w = cc
same_lower PosInf NegInf h w = cc
same_lower PosInf (Excl b) h w = cc
same_lower PosInf (Incl b) h w = cc
same_lower PosInf PosInf h w = refl

same_upper : (u v : End) → upper_covers u v ≡ true → upper_covers v u ≡ true → upper_text u ≡ upper_text v
same_upper PosInf PosInf h w = refl
same_upper PosInf (Excl b) h w = cc
same_upper PosInf (Incl b) h w = cc
same_upper PosInf NegInf h w = cc
same_upper (Excl a) PosInf h w = cc
same_upper (Excl a) (Excl b) h w = ap (λ t. t ++ codes ")") (same_decimal a b w h)
same_upper (Excl a) (Incl b) h w = no_less b a h w
same_upper (Excl a) NegInf h w = cc
same_upper (Incl a) PosInf h w = cc
same_upper (Incl a) (Excl b) h w = no_less a b w h
same_upper (Incl a) (Incl b) h w = ap (λ t. t ++ codes "]") (same_decimal a b w h)
same_upper (Incl a) NegInf h w = cc
same_upper NegInf PosInf h w = cc
same_upper NegInf (Excl b) h w = cc
same_upper NegInf (Incl b) h w = cc
same_upper NegInf NegInf h w = refl

same_interval : (i j : Interval) → is_within i j ≡ true → is_within j i ≡ true → interval_text i ≡ interval_text j
same_interval i j h k =
    let p = and_parts (lower_covers j.0 i.0) _ h in
    let q = and_parts (lower_covers i.0 j.0) _ k in
    ap₂ (λ (l u : List ℕ). l ++ codes "," ++ u) (same_lower i.0 j.0 q.0 p.0) (same_upper i.1 j.1 q.1 p.1)

same_may : (m n : May) → is_may_within m n ≡ true → is_may_within n m ≡ true → m ≡ n
same_may True True h k = refl
same_may True False h k = cc
same_may True Any h k = cc
same_may False True h k = cc
same_may False False h k = refl
same_may False Any h k = cc
same_may Any True h k = cc
same_may Any False h k = cc
same_may Any Any h k = refl

-- ---- lists

same_parts : {X : Type 0} (d : X) (say : X → List ℕ) (names : List (List ℕ)) (xs ys : List X) → length xs ≡ length ys → ((n : ℕ) → n < length xs → say (get_or xs n d) ≡ say (get_or ys n d)) →
    flat_map (λ part. part_text part.0 (say part.1)) (zip names xs) ≡ flat_map (λ part. part_text part.0 (say part.1)) (zip names ys)
same_parts d say [] xs ys h same = refl
same_parts d say (name ∷ names) [] [] h same = refl
same_parts d say (name ∷ names) [] (y ∷ ys) h same = cc
same_parts d say (name ∷ names) (x ∷ xs) [] h same = cc
same_parts d say (name ∷ names) (x ∷ xs) (y ∷ ys) h same =
    ap₂ (λ (t r : List ℕ). part_text name t ++ r) (same 0 (omega arith)) (same_parts d say names xs ys (omega arith) (λ n l. same (suc n) (omega arith)))

pub one_line : (raw : RawTask) (b c : StateBox) → LiesWithin b c → LiesWithin c b → box_line raw b ≡ box_line raw c
one_line raw b c h k =
    ap₂ (λ (f x : List ℕ). codes "box" ++ f ++ x ++ codes "\n")
    (same_parts Any may_text raw.facts b.facts c.facts h.as_many_facts
    (λ n l. ap may_text (same_may (fact_in b n) (fact_in c n) (h.facts n l) (k.facts n (subst (λ (m : ℕ). n < m) h.as_many_facts l)))))
    (same_parts whole_line interval_text raw.fluents b.fluents c.fluents h.as_many_fluents
    (λ n l. same_interval (fluent_in b n) (fluent_in c n) (h.fluents n l) (k.fluents n (subst (λ (m : ℕ). n < m) h.as_many_fluents l))))
