-- The texts of decimals, ends and intervals spell them, with the fewest places.
use Rattle.std.proofs.Common.{◌≡◌, ℕ, ◌≤◌, ℤ, true, List, refl, sym, ap, ◌∙◌, arith, IsTrue}
use Rattle.num_ends.specs.Decimal.{Decimal, InRange, trimmed}
use Rattle.num_ends.specs.Ends.{Interval, is_inhabited}
use Rattle.num_ends.specs.Texts.{decimal_text, interval_text, lower_text, upper_text}
use Rattle.num_ends.specs.declared.ends.End.{End}
use Rattle.num_ends.specs.declared.ends.End.TheVariants.{NegInf, Excl, Incl, PosInf}
use Rattle.num_ends.proofs.DecimalOrder.{no_place_more}
use Rattle.num_ends.proofs.Trimmed.{less_of_trimmed, most_of_trimmed, trimmed_number, trimmed_places, trimmed_range, trimmed_twice}
use Rattle.box_model.specs.Boxes.{IsEndFor}
use Rattle.box_model.specs.Hold.{trimmed_end}
use Rattle.cert_reader.specs.Spelling.{SpellsDecimal, SpellsInterval, SpellsLower, SpellsNumber, SpellsUpper}
use Rattle.read_back.specs.Certificates.{trimmed_interval}
use Rattle.read_back.proofs.Numerals.{numeral_of}

-- ---- decimals

pub decimal_spelled : (places : ℕ) (d : Decimal) → (trimmed d).p ≤ places → InRange (trimmed d).n → SpellsDecimal places (decimal_text d) (trimmed d)
unfolding decimal_text
decimal_spelled places d few fits = (trimmed d, numeral_of (trimmed d) fits, sym (trimmed_twice d), few, fits)

-- a number at its places
pub number_spelled : (places : ℕ) (n : ℤ) → InRange n → SpellsNumber places (decimal_text (record { n = n; p = places })) n
number_spelled places n fits =
    let d : Decimal = record { n = n; p = places } in
    let within : places ≤ places = omega arith in (
      trimmed d,
      decimal_spelled places d (trimmed_places d) (trimmed_range d fits),
      sym (trimmed_number places d within ∙ no_place_more places d refl),
      fits,
    )

-- ---- ends

-- a lower end that some interval has
abbrev pub IsLower : End → Type 0
IsLower NegInf = Unit {0}
IsLower (Excl d) = Unit {0}
IsLower (Incl d) = Unit {0}
IsLower PosInf = ⊥

abbrev pub IsUpper : End → Type 0
IsUpper NegInf = ⊥
IsUpper (Excl d) = Unit {0}
IsUpper (Incl d) = Unit {0}
IsUpper PosInf = Unit {0}

pub ends_stand : (l u : End) → is_inhabited l u ≡ true → IsLower l × IsUpper u
ends_stand PosInf u h = cc
ends_stand NegInf NegInf h = cc
ends_stand NegInf (Excl b) h = (tt, tt)
ends_stand NegInf (Incl b) h = (tt, tt)
ends_stand NegInf PosInf h = (tt, tt)
ends_stand (Excl a) NegInf h = cc
ends_stand (Excl a) (Excl b) h = (tt, tt)
ends_stand (Excl a) (Incl b) h = (tt, tt)
ends_stand (Excl a) PosInf h = (tt, tt)
ends_stand (Incl a) NegInf h = cc
ends_stand (Incl a) (Excl b) h = (tt, tt)
ends_stand (Incl a) (Incl b) h = (tt, tt)
ends_stand (Incl a) PosInf h = (tt, tt)

pub inhabited_trimmed : (l u : End) → is_inhabited (trimmed_end l) (trimmed_end u) ≡ is_inhabited l u
inhabited_trimmed PosInf u = refl
inhabited_trimmed NegInf NegInf = refl
inhabited_trimmed NegInf (Excl b) = refl
inhabited_trimmed NegInf (Incl b) = refl
inhabited_trimmed NegInf PosInf = refl
inhabited_trimmed (Excl a) NegInf = refl
inhabited_trimmed (Excl a) (Excl b) = less_of_trimmed a b
inhabited_trimmed (Excl a) (Incl b) = less_of_trimmed a b
inhabited_trimmed (Excl a) PosInf = refl
inhabited_trimmed (Incl a) NegInf = refl
inhabited_trimmed (Incl a) (Excl b) = less_of_trimmed a b
inhabited_trimmed (Incl a) (Incl b) = most_of_trimmed a b
inhabited_trimmed (Incl a) PosInf = refl

lower_spelled : (places : ℕ) (e : End) → IsLower e → IsEndFor places e → SpellsLower places (lower_text e) (trimmed_end e)
lower_spelled places NegInf stands fits = refl
lower_spelled places (Excl d) stands fits = (decimal_text d, refl, decimal_spelled places d fits.0 fits.1)
lower_spelled places (Incl d) stands fits = (decimal_text d, refl, decimal_spelled places d fits.0 fits.1)
lower_spelled places PosInf stands fits = absurd stands

upper_spelled : (places : ℕ) (e : End) → IsUpper e → IsEndFor places e → SpellsUpper places (upper_text e) (trimmed_end e)
upper_spelled places NegInf stands fits = absurd stands
upper_spelled places (Excl d) stands fits = (decimal_text d, refl, decimal_spelled places d fits.0 fits.1)
upper_spelled places (Incl d) stands fits = (decimal_text d, refl, decimal_spelled places d fits.0 fits.1)
upper_spelled places PosInf stands fits = refl

-- ---- intervals

pub interval_spelled : (places : ℕ) (i : Interval) → IsTrue (is_inhabited i.0 i.1) → IsEndFor places i.0 → IsEndFor places i.1
    → SpellsInterval places (interval_text i) (trimmed_interval i)
interval_spelled places i there lower upper =
    let stand = ends_stand i.0 i.1 there in
    record {
      lower = lower_text i.0;
      upper = upper_text i.1;
      spelled = refl;
      spells_lower = lower_spelled places i.0 stand.0 lower;
      spells_upper = upper_spelled places i.1 stand.1 upper;
      inhabited = inhabited_trimmed i.0 i.1 ∙ there;
    }

-- an end that a text spells has the fewest places
pub spelled_lower_trimmed : (places : ℕ) (text : List ℕ) (e : End) → SpellsLower places text e → trimmed_end e ≡ e
spelled_lower_trimmed places text NegInf h = refl
spelled_lower_trimmed places text (Excl d) (digits, is, (e, numeral, same, few, fits)) = ap Excl (ap trimmed same ∙ trimmed_twice e ∙ sym same)
spelled_lower_trimmed places text (Incl d) (digits, is, (e, numeral, same, few, fits)) = ap Incl (ap trimmed same ∙ trimmed_twice e ∙ sym same)
spelled_lower_trimmed places text PosInf h = refl

pub spelled_upper_trimmed : (places : ℕ) (text : List ℕ) (e : End) → SpellsUpper places text e → trimmed_end e ≡ e
spelled_upper_trimmed places text NegInf h = refl
spelled_upper_trimmed places text (Excl d) (digits, is, (e, numeral, same, few, fits)) = ap Excl (ap trimmed same ∙ trimmed_twice e ∙ sym same)
spelled_upper_trimmed places text (Incl d) (digits, is, (e, numeral, same, few, fits)) = ap Incl (ap trimmed same ∙ trimmed_twice e ∙ sym same)
spelled_upper_trimmed places text PosInf h = refl
