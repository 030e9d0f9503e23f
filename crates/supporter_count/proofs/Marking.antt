-- What a mark leaves, and how many marks an action makes.
use Rattle.std.proofs.Common.{◌≡◌, ◌≢◌, ℕ, suc, ◌+◌, ◌*◌, ◌==◌, ◌<◌, ◌≤◌, Bool, true, false, cond, ◌||◌, List, [], ◌∷◌, ◌++◌, map, length, get_or, All, AllPairs, eq-eqb, ne_eqb, eqb, inl, inr, sym, refl, ap, ◌∙◌, subst, arith, take, set}
use Rattle.std.proofs.lemmas.Bool.Decides.{eqb_tells}
use Rattle.std.proofs.lemmas.List.{get_or-set_same, get_or-set_other}
use Rattle.std.proofs.lemmas.List.{take_more, append_assoc, length-map}
use Rattle.std.proofs.lemmas.List.Elements.{All-head, All-tail}
use Rattle.std.proofs.lemmas.Map.Steps.{length-le_from_distinct_below}
use Rattle.std.specs.List.{AllByRecursion, IsDistinct, list_any}
use Rattle.std.specs.Set.{is_member, distinct_count}
use Rattle.ground_task.specs.declared.raw.Change.{Change}
use Rattle.ground_task.specs.declared.raw.Ground.{Ground}
use Rattle.ground_task.specs.Valid.{IsValidAction}
use Rattle.supporter_count.specs.declared.marks.Marks.{Marks}
use Rattle.supporter_count.specs.Counts.{supporters_of}
use Rattle.supporter_count.specs.Marks.{AreOld, AreMarked}
use Rattle.supporter_count.proofs.Unique.{same, member_last, count_last}

known_in : (a b : Bool) → a ≡ true → (b ≡ true → a ≡ true) → a ≡ (a || b)
known_in true b e h = refl
known_in false b e h = absurd (cc)

-- a fact that is marked already
pub known : (m : Marks) (facts : List ℕ) (f : ℕ) → f < length m.stamps.items → get_or m.stamps.items f 0 ≡ m.current → AreMarked m facts
    → AreMarked m (facts ++ f ∷ []) × (distinct_count same (facts ++ f ∷ []) ≡ distinct_count same facts + 0)
known m facts f lt e marked =
    let member : is_member same facts f ≡ true = sym (marked.marked f lt) ∙ eq-eqb (get_or m.stamps.items f 0) m.current e in (
      record {
        old = marked.old;
        marked = λ g inside. marked.marked g inside ∙ (still g member ∙ sym (member_last facts f g));
      },
      count_last facts f ∙ ap (λ (b : Bool). distinct_count same facts + cond b 0 1) member,
    )
  where
    still : (g : ℕ) → is_member same facts f ≡ true → is_member same facts g ≡ (is_member same facts g || (g == f))
    still g member = elim (eqb_tells g f) [
      | inl h ↦ known_in (is_member same facts g) (g == f) (ap (is_member same facts) h.1 ∙ member) (λ e. ap (is_member same facts) h.1 ∙ member)
      | inr h ↦ without (is_member same facts g) (g == f) h.0
    ]
      where
        without : (a b : Bool) → b ≡ false → a ≡ (a || b)
        without true b e = refl
        without false b e = sym e

with_true : (a b : Bool) → b ≡ true → (a || b) ≡ true
with_true true b e = refl
with_true false b e = e

with_false : (a b : Bool) → b ≡ false → (a || b) ≡ a
with_false true b e = refl
with_false false b e = e

-- a fact that comes to be marked
pub fresh : (m m' : Marks) (facts : List ℕ) (f : ℕ) → f < length m.stamps.items → get_or m.stamps.items f 0 ≢ m.current → m'.stamps.items ≡ set m.stamps.items f m.current → m'.current ≡ m.current → length m'.stamps.items ≡ length m.stamps.items → AreMarked m facts
    → AreMarked m' (facts ++ f ∷ []) × (distinct_count same (facts ++ f ∷ []) ≡ distinct_count same facts + 1)
fresh m m' facts f lt ne is current size marked =
    let absent : is_member same facts f ≡ false = sym (marked.marked f lt) ∙ ne_eqb (get_or m.stamps.items f 0) m.current ne in
    let here : get_or m'.stamps.items f 0 ≡ m.current = ap (λ (l : List ℕ). get_or l f 0) is ∙ get_or-set_same m.stamps.items f m.current 0 lt in (
      record {
        old = λ g. elim (eqb_tells g f) [
          | inl h ↦ let at : get_or m'.stamps.items g 0 ≡ m.current = ap (λ (k : ℕ). get_or m'.stamps.items k 0) h.1 ∙ here in omega (arith, at, current)
          | inr h ↦ let at : get_or m'.stamps.items g 0 ≡ get_or m.stamps.items g 0 = ap (λ (l : List ℕ). get_or l g 0) is ∙ get_or-set_other m.stamps.items f g m.current 0 h.1 in let old = marked.old g in omega (arith, at, current, old)
        ];
        marked = λ g inside. elim (eqb_tells g f) [
          | inl h ↦ eq-eqb (get_or m'.stamps.items g 0) m'.current (ap (λ (k : ℕ). get_or m'.stamps.items k 0) h.1 ∙ (here ∙ sym current)) ∙ sym (member_last facts f g ∙ with_true (is_member same facts g) (g == f) h.0)
          | inr h ↦ (λ i. (ap (λ (l : List ℕ). get_or l g 0) is ∙ get_or-set_other m.stamps.items f g m.current 0 h.1) i == current i)
              ∙ (marked.marked g (subst (λ (n : ℕ). g < n) size inside) ∙ sym (member_last facts f g ∙ with_false (is_member same facts g) (g == f) h.0))
        ];
      },
      count_last facts f ∙ ap (λ (b : Bool). distinct_count same facts + cond b 0 1) absent,
    )

-- ---- loops

-- one turn of a loop that marks facts
pub marked_more : (m0 m m' : Marks) (facts : List ℕ) (k f : ℕ) (more r : ℕ) → k < length facts → f ≡ get_or facts k 0
    → ((before : List ℕ) → AreMarked m0 before → AreMarked m (before ++ take k facts) × (distinct_count same (before ++ take k facts) ≡ distinct_count same before + more))
    → ((some : List ℕ) → AreMarked m some → AreMarked m' (some ++ f ∷ []) × (distinct_count same (some ++ f ∷ []) ≡ distinct_count same some + r))
    → (before : List ℕ) → AreMarked m0 before → AreMarked m' (before ++ take (k + 1) facts) × (distinct_count same (before ++ take (k + 1) facts) ≡ distinct_count same before + (more + r))
marked_more m0 m m' facts k f more r lt is before_it here before h =
    let a = before_it before h in
    let b = here (before ++ take k facts) a.0 in
    let one : take (k + 1) facts ≡ take k facts ++ f ∷ [] = take_more facts k 0 lt ∙ ap (λ (g : ℕ). take k facts ++ g ∷ []) (sym is) in
    let whole : (before ++ take k facts) ++ f ∷ [] ≡ before ++ take (k + 1) facts = append_assoc before (take k facts) (f ∷ []) ∙ ap (λ (l : List ℕ). before ++ l) (sym one) in
    let count : distinct_count same before + more + r ≡ distinct_count same before + (more + r) = omega arith in
    subst (λ (l : List ℕ). AreMarked m' l × (distinct_count same l ≡ distinct_count same before + (more + r))) whole (b.0, b.1 ∙ (ap (λ (n : ℕ). n + r) a.1 ∙ count))

-- no fluent is changed twice, so an action has at most as many numeric effects as there are fluents
apart_from : (x : ℕ × Change) (xs : List (ℕ × Change)) → ((j : ℕ) (d : ℕ × Change) → j < length xs → x.0 ≢ (get_or xs j d).0) → AllByRecursion (λ y. eqb x.0 y ≡ false) (map (λ e. e.0) xs)
apart_from x [] h = tt
apart_from x (y ∷ ys) h = (ne_eqb x.0 y.0 (h 0 y (omega arith)), apart_from x ys (λ j d lt. h (suc j) d (omega arith)))

distinct_fluents : (xs : List (ℕ × Change)) → AllPairs (λ one other. one.0 ≢ other.0) xs → IsDistinct eqb (map (λ e. e.0) xs)
unfolding IsDistinct
distinct_fluents [] h = tt
distinct_fluents (x ∷ xs) h = (apart_from x xs (λ j d lt. h 0 (suc j) d (omega arith) (omega arith)), distinct_fluents xs (λ i j d l m. h (suc i) (suc j) d (omega arith) (omega arith)))

below_each : (n : ℕ) (xs : List (ℕ × Change)) → All (λ e. e.0 < n) xs → (q : ℕ) → list_any (eqb q) (map (λ e. e.0) xs) ≡ true → q < n
below_each n [] h q e = absurd (cc)
below_each n (x ∷ xs) h q e = elim (eqb_tells q x.0) [
  | inl same ↦ subst (λ (k : ℕ). k < n) (sym same.1) (All-head (λ e. e.0 < n) x xs h)
  | inr other ↦ below_each n xs (All-tail (λ e. e.0 < n) x xs h) q (sym (ap (λ (b : Bool). b || list_any (eqb q) (map (λ e. e.0) xs)) other.0) ∙ e)
]

pub few_effects : (facts fluents : ℕ) (a : Ground) → IsValidAction facts fluents a → length a.nums ≤ fluents
few_effects facts fluents a valid =
    let le = length-le_from_distinct_below (map (λ e. e.0) a.nums) fluents (distinct_fluents a.nums valid.one_change_each) (below_each fluents a.nums valid.known_fluents) in
    omega (arith, length-map a.nums (λ (e : ℕ × Change). e.0))

-- the marks of the facts added and then of those deleted
pub count_of : (m0 m1 m2 : Marks) (a : Ground) (fs gs : List ℕ) (added deleted effects : ℕ) → fs ≡ a.adds → gs ≡ a.dels → AreMarked m0 []
    → ((before : List ℕ) → AreMarked m0 before → AreMarked m1 (before ++ fs) × (distinct_count same (before ++ fs) ≡ distinct_count same before + added))
    → ((before : List ℕ) → AreMarked m1 before → AreMarked m2 (before ++ gs) × (distinct_count same (before ++ gs) ≡ distinct_count same before + deleted))
    → effects ≡ length a.nums → (added + deleted + 2 * effects ≡ supporters_of a) × AreOld m2
count_of m0 m1 m2 a fs gs added deleted effects es ds none adds dels as_many =
    let x = adds [] none in
    let y = dels fs x.0 in
    let e : distinct_count same fs ≡ 0 + added = x.1 in
    let f : distinct_count same (fs ++ gs) ≡ distinct_count same fs + deleted = y.1 in
    let g : added + deleted + 2 * effects ≡ distinct_count same (fs ++ gs) + 2 * effects = omega arith in
    (g ∙ (λ i. distinct_count same (es i ++ ds i) + 2 * as_many i), y.0.old)
