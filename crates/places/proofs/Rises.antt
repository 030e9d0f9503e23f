-- Counts that rise: one step, one step after another, and that they stay below all counts that are enough.
use Rattle.std.proofs.Common.{◌≡◌, ◌≤◌, ◌<◌, ◌+◌, ◌-◌, ◌||◌, ℕ, Bool, true, false, List, Some, length, min, map, take, set, get_or, slice_get, slice_index_or, refl, sym, ap, ◌∙◌, subst, arith, inl, inr}
use Rattle.std.specs.Prelude.{IsTrue}
use Rattle.num_ends.specs.Decimal.{Decimal, origin, trimmed}
use Rattle.std.proofs.lemmas.Bool.{cases_Bool, cases_eq, cases_lt}
use Rattle.std.proofs.lemmas.Bool.Decides.{nat_tests}
use Rattle.std.proofs.lemmas.List.{get_or-map, get_or_past, get_or-set_same, get_or-set_other, length-map, length-set}
use Rattle.std.proofs.lemmas.Option.{slice_get-get_or}
use Rattle.std.proofs.lemmas.List.Elements.{All-more, All-set}
use Rattle.std.proofs.lemmas.List.Sums.{sum_by-set}
use Rattle.ground_task.specs.declared.raw.Change.{Change}
use Rattle.ground_task.specs.declared.raw.GExpr.{GExpr}
use Rattle.ground_task.specs.declared.raw.Ground.{Ground}
use Rattle.ground_task.specs.declared.raw.RawTask.{RawTask}
use Rattle.ground_task.specs.Placed.{places_layer, places_of}
use Rattle.ground_task.specs.Valid.{is_known_expression, right_side, IsValid, IsValidAction}
use Rattle.ground_task.proofs.Trees.{fold-Const, fold-Read, fold-Add, fold-Sub, fold-Mul, induct_expression}
use Rattle.places.specs.Inside.{first_count, is_short, needed, raised, room_of, AreMet, IsRise, IsUnderLeast, LiesBelow}
use Rattle.places.specs.Least.{IsEnough, IsLeastPlaces}

-- ---- more places of the fluents, more places of an expression

pub places_grow : (counts others : List ℕ) → LiesBelow counts others → (x : GExpr) → places_of counts x ≤ places_of others x
places_grow counts others below =
    induct_expression (λ x. places_of counts x ≤ places_of others x)
    (λ d. omega (arith, fold-Const (places_layer counts) d, fold-Const (places_layer others) d))
    (λ x. omega (arith, fold-Read (places_layer counts) x, fold-Read (places_layer others) x, below x))
    (λ a b one other. omega (arith, fold-Add (places_layer counts) a b, fold-Add (places_layer others) a b, one, other))
    (λ a b one other. omega (arith, fold-Sub (places_layer counts) a b, fold-Sub (places_layer others) a b, one, other))
    (λ a b one other. omega (arith, fold-Mul (places_layer counts) a b, fold-Mul (places_layer others) a b, one, other))

-- ---- one step

module _ (raw : RawTask) (counts : List ℕ) (x : ℕ) (rhs : GExpr) (known : x < length counts) (asked : (others : List ℕ) → IsEnough raw others → needed others rhs ≤ slice_index_or others x 0) where
  abbrev places : ℕ
  places = needed counts rhs

  lower : slice_index_or counts x 0 < places → LiesBelow counts (set counts x places)
  lower short y =
      elim (cases_eq y x) [
        | inl same ↦ omega (arith, short, ap (λ (n : ℕ). get_or counts n 0) same, ap (λ (n : ℕ). get_or (set counts x places) n 0) same, get_or-set_same counts x places 0 known)
        | inr other ↦ omega (arith, get_or-set_other counts x y places 0 other)
      ]

  under : (others : List ℕ) → IsEnough raw others → LiesBelow counts others → LiesBelow (set counts x places) others
  under others enough below y =
      elim (cases_eq y x) [
        | inl same ↦ omega (arith, asked others enough, places_grow counts others below rhs, ap (λ (n : ℕ). get_or others n 0) same, ap (λ (n : ℕ). get_or (set counts x places) n 0) same, get_or-set_same counts x places 0 known)
        | inr other ↦ omega (arith, below y, get_or-set_other counts x y places 0 other)
      ]

  room_falls : slice_index_or counts x 0 < places → room_of (set counts x places) < room_of counts
  room_falls short =
      let few : places ≤ 10 = omega arith in
      omega (arith, short, few, sum_by-set (λ c. 10 - c) counts x places 0 known)

  risen : slice_index_or counts x 0 < places → IsRise raw counts (set counts x places) true
  risen short =
      record {
        as_many = length-set counts x places;
        cut = λ all. All-set (λ c. c ≤ 10) counts x places (omega arith) all;
        higher = lower short;
        least = under;
        falls = λ e. room_falls short;
        same = λ (e : true ≡ false). cc;
      }

  kept : IsRise raw counts counts false
  kept =
      record {
        as_many = refl;
        cut = λ all. all;
        higher = λ y. omega arith;
        least = λ others enough below. below;
        falls = λ (e : false ≡ true). cc;
        same = λ e. refl;
      }

  short_test : is_short counts x rhs ≡ true → slice_index_or counts x 0 < places
  short_test h = grind (arith, nat_tests)

  pub one_step : IsRise raw counts (raised counts x rhs) (is_short counts x rhs)
  one_step =
      elim (cases_Bool (is_short counts x rhs)) [
        | inl short ↦ rw short (risen (short_test short))
        | inr enough ↦ rw enough kept
      ]

-- a fluent that isn't short has what it needs
pub not_short : (counts : List ℕ) (x : ℕ) (rhs : GExpr) → is_short counts x rhs ≡ false → needed counts rhs ≤ slice_index_or counts x 0
not_short counts x rhs h = grind (arith, nat_tests)

-- ---- one step after another

pub none_yet : (raw : RawTask) (counts : List ℕ) → IsRise raw counts counts false
none_yet raw counts =
    record {
      as_many = refl;
      cut = λ all. all;
      higher = λ y. omega arith;
      least = λ others enough below. below;
      falls = λ (e : false ≡ true). cc;
      same = λ e. refl;
    }

both_false : (a b : Bool) → (a || b) ≡ false → (a ≡ false) × (b ≡ false)
both_false true b h = cc
both_false false b h = (refl, h)

falls_or_not : (raw : RawTask) (old new : List ℕ) (rose : Bool) → IsRise raw old new rose → room_of new ≤ room_of old
falls_or_not raw old new true rise = omega (arith, rise.falls refl)
falls_or_not raw old new false rise = omega (arith, ap room_of (rise.same refl))

pub then_rise : (raw : RawTask) (old mid new : List ℕ) (rose more : Bool) → IsRise raw old mid rose → IsRise raw mid new more → IsRise raw old new (rose || more)
then_rise raw old mid new rose more first second =
    record {
      as_many = second.as_many ∙ first.as_many;
      cut = λ all. second.cut (first.cut all);
      higher = λ y. omega (arith, first.higher y, second.higher y);
      least = λ others enough below. second.least others enough (first.least others enough below);
      falls = by_first rose refl;
      same = λ e. let parts = both_false rose more e in second.same parts.1 ∙ first.same parts.0;
    }
  where
    by_first : (b : Bool) → rose ≡ b → (rose || more) ≡ true → room_of new < room_of old
    by_first true is e = omega (arith, first.falls is, falls_or_not raw mid new more second)
    by_first false is e =
        let here : more ≡ true = sym (ap (λ (b : Bool). b || more) is) ∙ e in
        omega (arith, second.falls here, falls_or_not raw old mid rose first)

-- ---- the effects of an action

-- what enough counts give the effects of an action that is read
asked_here : (raw : RawTask) (number : ℕ) (a : Ground) → number < length raw.actions → a ≡ get_or raw.actions number a → (others : List ℕ) → IsEnough raw others → AreMet others a.nums
asked_here raw number a below is others enough = subst (λ (g : Ground). AreMet others g.nums) (sym is) (enough.changes number a below)

pub valid_here : (raw : RawTask) (number : ℕ) (a : Ground) → number < length raw.actions → a ≡ get_or raw.actions number a → IsValid raw → IsValidAction (length raw.facts) (length raw.fluents) a
valid_here raw number a below is valid = subst (IsValidAction (length raw.facts) (length raw.fluents)) (sym is) (valid.valid_actions number a below)

module _ (raw : RawTask) (number : ℕ) (a : Ground) (below : number < length raw.actions) (is : a ≡ get_or raw.actions number a) (valid : IsValid raw) (i : ℕ) (effect : ℕ × Change) (within : i < length a.nums) (here : effect ≡ get_or a.nums i effect) where
  abbrev rhs : GExpr
  rhs = right_side effect.1

  pub effect_known : effect.0 < length raw.fluents
  effect_known = subst (λ (e : ℕ × Change). e.0 < length raw.fluents) (sym here) ((valid_here raw number a below is valid).known_fluents i effect within)

  pub effect_reads : IsTrue (is_known_expression (length raw.fluents) rhs)
  effect_reads = subst (λ (e : ℕ × Change). IsTrue (is_known_expression (length raw.fluents) (right_side e.1))) (sym here) ((valid_here raw number a below is valid).known_right_sides i effect within)

  asked : (others : List ℕ) → IsEnough raw others → needed others rhs ≤ slice_index_or others effect.0 0
  asked others enough = subst (λ (e : ℕ × Change). needed others (right_side e.1) ≤ slice_index_or others e.0 0) (sym here) (asked_here raw number a below is others enough i effect within)

  pub effect_raised : (old mid new : List ℕ) (rose more : Bool) → length mid ≡ length raw.fluents → IsRise raw old mid rose → more ≡ is_short mid effect.0 rhs → new ≡ raised mid effect.0 rhs → IsRise raw old new (rose || more)
  effect_raised old mid new rose more many first short made =
      let step = one_step raw mid effect.0 rhs (omega (arith, effect_known, many)) asked in
      then_rise raw old mid new rose more first
      (subst (λ (b : Bool). IsRise raw mid new b) (sym short) (subst (λ (cs : List ℕ). IsRise raw mid cs (is_short mid effect.0 rhs)) (sym made) step))

  pub effect_met : (old mid : List ℕ) (rose more : Bool) → IsRise raw old mid rose → more ≡ is_short mid effect.0 rhs → (rose ≡ false → AreMet old (take i a.nums)) → (rose || more) ≡ false → AreMet old (take (i + 1) a.nums)
  effect_met old mid rose more first short before e =
      let parts = both_false rose more e in
      let same : mid ≡ old = first.same parts.0 in
      let enough : needed mid rhs ≤ slice_index_or mid effect.0 0 = not_short mid effect.0 rhs (sym short ∙ parts.1) in
      let at_old : needed old rhs ≤ slice_index_or old effect.0 0 = subst (λ (cs : List ℕ). needed cs rhs ≤ slice_index_or cs effect.0 0) same enough in
      All-more (λ (g : ℕ × Change). needed old (right_side g.1) ≤ slice_index_or old g.0 0) a.nums i effect within (before parts.0)
      (subst (λ (g : ℕ × Change). needed old (right_side g.1) ≤ slice_index_or old g.0 0) here at_old)

-- ---- the first counts and the least ones

pub under_at_first : (raw : RawTask) (counts : List ℕ) → IsValid raw → counts ≡ map first_count raw.values → IsUnderLeast raw counts
under_at_first raw counts valid is =
    record {
      a_count_each = many;
      cut = λ k d below. subst (λ (n : ℕ). n ≤ 10) (sym (at k d (omega (arith, below, many, valid.a_value_each)))) (small (slice_index_or raw.values k origin));
      values = λ x known. omega (arith, at x 0 (omega (arith, known, valid.a_value_each)));
      least = λ others enough x.
          elim (cases_lt x (length counts)) [
            | inl known ↦ omega (arith, at x 0 (omega (arith, known, many, valid.a_value_each)), enough.values x (omega (arith, known, many)))
            | inr past ↦ omega (arith, get_or_past counts x 0 past)
          ];
    }
  where
    many : length counts ≡ length raw.fluents
    many = ap length is ∙ length-map raw.values first_count ∙ valid.a_value_each

    small : (d : Decimal) → first_count d ≤ 10
    small d = omega arith

    at : (x d : ℕ) → x < length raw.values → get_or counts x d ≡ min 10 (trimmed (slice_index_or raw.values x origin)).p
    at x d known = ap (λ (cs : List ℕ). get_or cs x d) is ∙ get_or-map first_count raw.values x origin d known

pub least_at_last : (raw : RawTask) (counts : List ℕ) → IsUnderLeast raw counts → ((number : ℕ) (a : Ground) → slice_get raw.actions number ≡ Some a → AreMet counts a.nums) → IsLeastPlaces raw counts
least_at_last raw counts under met =
    record {
      enough = record {
        a_count_each = under.a_count_each;
        values = under.values;
        changes = λ k d below. met k (get_or raw.actions k d) (slice_get-get_or raw.actions k d below);
      };
      least = λ others enough x known. under.least others enough x;
    }
