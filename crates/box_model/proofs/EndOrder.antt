-- Ends and the decimals between them.
use Rattle.std.proofs.Common.{◌≡◌, true, refl}
use Rattle.num_ends.specs.Ends.{is_inhabited, is_end_below, lower_covers, upper_covers}
use Rattle.num_ends.specs.declared.ends.End.{End}
use Rattle.num_ends.specs.declared.ends.End.TheVariants.{NegInf, Excl, Incl, PosInf}
use Rattle.num_ends.proofs.DecimalOrder.{less_trans, less_most_trans, most_less_trans, most_trans, less_is_most}

-- ---- ends further out stand so as the inner ones do

pub below_lower : (m l u : End) → lower_covers m l ≡ true → is_end_below l u ≡ true → is_end_below m u ≡ true
below_lower m NegInf NegInf h k = cc
below_lower m (Excl x) NegInf h k = cc
below_lower m (Incl x) NegInf h k = cc
below_lower m PosInf u h k = cc
below_lower NegInf l (Excl y) h k = refl
below_lower NegInf l (Incl y) h k = refl
below_lower NegInf l PosInf h k = refl
below_lower (Excl w) NegInf u h k = cc
below_lower (Excl w) (Excl x) (Excl y) h k = most_less_trans w x y h k
below_lower (Excl w) (Excl x) (Incl y) h k = most_less_trans w x y h k
below_lower (Excl w) (Incl x) (Excl y) h k = less_trans w x y h k
below_lower (Excl w) (Incl x) (Incl y) h k = less_trans w x y h k
below_lower (Excl w) l PosInf h k = refl
below_lower (Incl w) NegInf u h k = cc
below_lower (Incl w) (Excl x) (Excl y) h k = most_less_trans w x y h k
below_lower (Incl w) (Excl x) (Incl y) h k = most_less_trans w x y h k
below_lower (Incl w) (Incl x) (Excl y) h k = most_less_trans w x y h k
below_lower (Incl w) (Incl x) (Incl y) h k = most_less_trans w x y h k
below_lower (Incl w) l PosInf h k = refl
below_lower PosInf NegInf u h k = cc
below_lower PosInf (Excl x) u h k = cc
below_lower PosInf (Incl x) u h k = cc

pub below_upper : (v u l : End) → upper_covers v u ≡ true → is_end_below l u ≡ true → is_end_below l v ≡ true
below_upper v u PosInf h k = cc
below_upper v NegInf NegInf h k = cc
below_upper v NegInf (Excl x) h k = cc
below_upper v NegInf (Incl x) h k = cc
below_upper PosInf u NegInf h k = refl
below_upper PosInf u (Excl x) h k = refl
below_upper PosInf u (Incl x) h k = refl
below_upper (Excl y) PosInf l h k = cc
below_upper (Excl y) (Excl z) NegInf h k = refl
below_upper (Excl y) (Incl z) NegInf h k = refl
below_upper (Excl y) (Excl z) (Excl x) h k = less_most_trans x z y k h
below_upper (Excl y) (Excl z) (Incl x) h k = less_most_trans x z y k h
below_upper (Excl y) (Incl z) (Excl x) h k = less_trans x z y k h
below_upper (Excl y) (Incl z) (Incl x) h k = less_trans x z y k h
below_upper (Incl y) PosInf l h k = cc
below_upper (Incl y) (Excl z) NegInf h k = refl
below_upper (Incl y) (Incl z) NegInf h k = refl
below_upper (Incl y) (Excl z) (Excl x) h k = less_most_trans x z y k h
below_upper (Incl y) (Excl z) (Incl x) h k = less_most_trans x z y k h
below_upper (Incl y) (Incl z) (Excl x) h k = less_most_trans x z y k h
below_upper (Incl y) (Incl z) (Incl x) h k = less_most_trans x z y k h
below_upper NegInf PosInf l h k = cc
below_upper NegInf (Excl z) l h k = cc
below_upper NegInf (Incl z) l h k = cc

pub inhabited_lower : (m l u : End) → lower_covers m l ≡ true → is_inhabited l u ≡ true → is_inhabited m u ≡ true
inhabited_lower m NegInf NegInf h k = cc
inhabited_lower m (Excl x) NegInf h k = cc
inhabited_lower m (Incl x) NegInf h k = cc
inhabited_lower m PosInf u h k = cc
inhabited_lower NegInf l (Excl y) h k = refl
inhabited_lower NegInf l (Incl y) h k = refl
inhabited_lower NegInf l PosInf h k = refl
inhabited_lower (Excl w) NegInf u h k = cc
inhabited_lower (Excl w) (Excl x) (Excl y) h k = most_less_trans w x y h k
inhabited_lower (Excl w) (Excl x) (Incl y) h k = most_less_trans w x y h k
inhabited_lower (Excl w) (Incl x) (Excl y) h k = less_trans w x y h k
inhabited_lower (Excl w) (Incl x) (Incl y) h k = less_most_trans w x y h k
inhabited_lower (Excl w) l PosInf h k = refl
inhabited_lower (Incl w) NegInf u h k = cc
inhabited_lower (Incl w) (Excl x) (Excl y) h k = most_less_trans w x y h k
inhabited_lower (Incl w) (Excl x) (Incl y) h k = less_is_most w y (most_less_trans w x y h k)
inhabited_lower (Incl w) (Incl x) (Excl y) h k = most_less_trans w x y h k
inhabited_lower (Incl w) (Incl x) (Incl y) h k = most_trans w x y h k
inhabited_lower (Incl w) l PosInf h k = refl
inhabited_lower PosInf NegInf u h k = cc
inhabited_lower PosInf (Excl x) u h k = cc
inhabited_lower PosInf (Incl x) u h k = cc

pub inhabited_upper : (v u l : End) → upper_covers v u ≡ true → is_inhabited l u ≡ true → is_inhabited l v ≡ true
inhabited_upper v u PosInf h k = cc
inhabited_upper v NegInf NegInf h k = cc
inhabited_upper v NegInf (Excl x) h k = cc
inhabited_upper v NegInf (Incl x) h k = cc
inhabited_upper PosInf u NegInf h k = refl
inhabited_upper PosInf u (Excl x) h k = refl
inhabited_upper PosInf u (Incl x) h k = refl
inhabited_upper (Excl y) PosInf l h k = cc
inhabited_upper (Excl y) (Excl z) NegInf h k = refl
inhabited_upper (Excl y) (Incl z) NegInf h k = refl
inhabited_upper (Excl y) (Excl z) (Excl x) h k = less_most_trans x z y k h
inhabited_upper (Excl y) (Excl z) (Incl x) h k = less_most_trans x z y k h
inhabited_upper (Excl y) (Incl z) (Excl x) h k = less_trans x z y k h
inhabited_upper (Excl y) (Incl z) (Incl x) h k = most_less_trans x z y k h
inhabited_upper (Incl y) PosInf l h k = cc
inhabited_upper (Incl y) (Excl z) NegInf h k = refl
inhabited_upper (Incl y) (Incl z) NegInf h k = refl
inhabited_upper (Incl y) (Excl z) (Excl x) h k = less_most_trans x z y k h
inhabited_upper (Incl y) (Excl z) (Incl x) h k = less_is_most x y (less_most_trans x z y k h)
inhabited_upper (Incl y) (Incl z) (Excl x) h k = less_most_trans x z y k h
inhabited_upper (Incl y) (Incl z) (Incl x) h k = most_trans x z y k h
inhabited_upper NegInf PosInf l h k = cc
inhabited_upper NegInf (Excl z) l h k = cc
inhabited_upper NegInf (Incl z) l h k = cc
