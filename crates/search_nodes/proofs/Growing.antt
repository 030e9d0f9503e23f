-- A state enters by its class, and what was there stays in front.
use Rattle.std.proofs.Common.{◌≡◌, ◌≢◌, ℕ, ◌<◌, ◌≤◌, ◌⊎◌, zero, suc, List, [], ◌∷◌, ◌++◌, map, length, take, Option, None, Some, IfSome, IfNone, All, refl, sym, ap, subst, ◌∙◌, inl, inr, arith, length-append}
use Rattle.std.proofs.lemmas.List.{append_assoc, append-nil}
use Rattle.std.proofs.Math.Seq.{take-append_seam}
use Rattle.std.proofs.lemmas.List.Elements.{All-append, All-cons, All-nil}
use Rattle.ground_task.specs.States.{StateValue}
use Rattle.ground_task.specs.Tasks.{TaskValue}
use Rattle.box_model.specs.Boxes.{IsBoxOf}
use Rattle.box_model.specs.declared.state_box.StateBox.{StateBox}
use Rattle.open_list.specs.Frontier.{Frontier}
use Rattle.explored.specs.Classes.{IsClassed, IsClassedBy}
use Rattle.explored.specs.Kept.{Kept, noted, keeping}
use Rattle.explored.specs.declared.classes.Class.{Class}
use Rattle.explored.specs.declared.classes.Class.TheVariants as class
use Rattle.explored.specs.declared.classes.Most.{Most}
use Rattle.search_nodes.specs.Growth.{Configs, Extends, FitsView, SameTerms, IsEntered, IsEnteredBy, IsDeadEntered, IsMet, AreMet, estimate_in, seen_in, status_in}
use Rattle.search_nodes.specs.Tables.{IsNew, IsOther, IsTable, Table, WithNodes, config_of, node_of}
use Rattle.explored.specs.declared.classes.Seen.{Seen}
use Rattle.search_runs.specs.Nodes.{IsNode, with_status}
use Rattle.search_runs.specs.Spaces.{IsAt}
use Rattle.search_runs.specs.declared.nodes.Status.{Status}
use Rattle.search_nodes.specs.declared.nodes.Rest.{Rest}
use Rattle.search_nodes.specs.declared.views.Outcome.{Outcome}
use Rattle.search_nodes.specs.declared.views.Outcome.TheVariants.{Blocked, Over, Known, InKept, Next}
use Rattle.search_nodes.specs.declared.views.View.{View}
use Rattle.search_nodes.specs.declared.views.View.TheVariants as view
use Rattle.search_nodes.proofs.Kept.{node_at}
use Rattle.search_runs.proofs.Places.{at_changed, at_same, length-with_status}
use Rattle.search_runs.specs.declared.answers.Full.{Full}
use Rattle.search_runs.specs.declared.answers.Site.{Site}
use Rattle.search_runs.specs.declared.nodes.Status.TheVariants.{Closed, Goal}
use Rattle.search_runs.specs.declared.answers.Site.TheVariants as site
use Rattle.search_runs.specs.declared.nodes.Node.{Node}

abbrev Nodes : Type 0
Nodes = List (Node StateValue)

abbrev pub with_kept : Nodes → Kept → Configs
with_kept nodes k = record { nodes = nodes; boxes = k.boxes; over = k.over; full = k.full }

abbrev pub with_new : Nodes → StateValue → ℕ → ℕ → Class → ℕ → Nodes
with_new nodes s parent via cl h = nodes ++ record { state = s; parent = parent; via = via; status = status_in cl h } ∷ []

module _ (places : List ℕ) (most : Most) (nodes : Nodes) (s : StateValue) (parent via : ℕ) (old new : Kept) where
  -- there is no room
  none_by : (v : View) → length nodes < most.states → IsClassedBy places most (length nodes) s (seen_in v) None old new → IsEnteredBy places most s parent via v (with_kept nodes old) (with_kept nodes new)
  none_by view.Goal room (e, k) = cc
  none_by (view.Live h) room (e, k) = cc
  none_by (view.LiveOver h) room (e, k) = cc
  none_by (view.Dead own) room (inl (b, first, e, k)) = cc
  none_by (view.Dead own) room (inr (none, inl (full, e, k))) = inr (none, inl (full, ap (with_kept nodes) k))
  none_by (view.Dead own) room (inr (none, inr (less, e, k))) = cc

  pub entered_none : (v : View) → IsClassed places most (length nodes) s (seen_in v) None old new → IsEntered places most s parent via v (with_kept nodes old) (with_kept nodes new)
  entered_none v (inl (full, e, k)) = inl (full, ap (with_kept nodes) k)
  entered_none v (inr (room, is)) = inr (room, none_by v room is)

  -- it becomes a node
  module _ (cl : Class) where
    both : (k : Kept) (c : Class) (h : ℕ) → cl ≡ c → new ≡ k → with_kept (with_new nodes s parent via cl h) new ≡ with_kept (with_new nodes s parent via c h) k
    both k c h same kept = λ i. with_kept (with_new nodes s parent via (same i) h) (kept i)

    one : (c : Class) → Some cl ≡ Some c → cl ≡ c
    one c e = cc

    some_by : (v : View) → IsClassedBy places most (length nodes) s (seen_in v) (Some cl) old new → IsEnteredBy places most s parent via v (with_kept nodes old) (with_kept (with_new nodes s parent via cl (estimate_in v)) new)
    some_by view.Goal (e, k) = both old class.Goal 0 (one class.Goal e) k
    some_by (view.Live h) (e, k) = both old class.Waits h (one class.Waits e) k
    some_by (view.LiveOver h) (e, k) = both (noted (length nodes) site.Goal old) class.Waits h (one class.Waits e) k
    some_by (view.Dead own) (inl (b, first, e, k)) = inl (b, first, both old (class.Dead b) 0 (one (class.Dead b) e) k)
    some_by (view.Dead own) (inr (none, inl (full, e, k))) = cc
    some_by (view.Dead own) (inr (none, inr (less, e, k))) =
        inr (none, inr (less, both (keeping own old) (class.Dead (length old.boxes)) 0 (one (class.Dead (length old.boxes)) e) k))

    pub entered_some : (v : View) → IsClassed places most (length nodes) s (seen_in v) (Some cl) old new → IsEntered places most s parent via v (with_kept nodes old) (with_kept (with_new nodes s parent via cl (estimate_in v)) new)
    entered_some v (inl (full, e, k)) = cc
    entered_some v (inr (room, is)) = inr (room, some_by v is)

-- there is room for a node that gets a class
pub room_for : (places : List ℕ) (most : Most) (n : ℕ) (s : StateValue) (v : View) (cl : Class) (old new : Kept) → IsClassed places most n s (seen_in v) (Some cl) old new → n < most.states
room_for places most n s v cl old new (inl (full, e, k)) = cc
room_for places most n s v cl old new (inr (room, is)) = room

-- boxes that a class keeps

boxes_more : (places : List ℕ) (most : Most) (n : ℕ) (s : StateValue) (v : View) (answer : Option Class) (old new : Kept) → IsClassedBy places most n s (seen_in v) answer old new
    → (new.boxes ≡ old.boxes) ⊎ ((own : StateBox) × (v ≡ view.Dead own) × (length old.boxes < most.boxes) × (new.boxes ≡ old.boxes ++ own ∷ []))
boxes_more places most n s view.Goal answer old new (e, k) = inl (ap (λ k. k.boxes) k)
boxes_more places most n s (view.Live h) answer old new (e, k) = inl (ap (λ k. k.boxes) k)
boxes_more places most n s (view.LiveOver h) answer old new (e, k) = inl (ap (λ k. k.boxes) k)
boxes_more places most n s (view.Dead own) answer old new (inl (b, first, e, k)) = inl (ap (λ k. k.boxes) k)
boxes_more places most n s (view.Dead own) answer old new (inr (none, inl (full, e, k))) = inl (ap (λ k. k.boxes) k)
boxes_more places most n s (view.Dead own) answer old new (inr (none, inr (less, e, k))) = inr (own, refl, less, ap (λ k. k.boxes) k)

pub classed_boxes : (places : List ℕ) (most : Most) (n : ℕ) (s : StateValue) (v : View) (answer : Option Class) (old new : Kept) → IsClassed places most n s (seen_in v) answer old new
    → (new.boxes ≡ old.boxes) ⊎ ((own : StateBox) × (v ≡ view.Dead own) × (length old.boxes < most.boxes) × (new.boxes ≡ old.boxes ++ own ∷ []))
classed_boxes places most n s v answer old new (inl (full, e, k)) = inl (ap (λ k. k.boxes) k)
classed_boxes places most n s v answer old new (inr (room, is)) = boxes_more places most n s v answer old new is

pub table_classed : (t : TaskValue) (most : Most) (table : List (StateValue × Rest)) (old new : Kept) (frontier : Frontier) (goal : Option ℕ) (taken : ℕ) (n : ℕ) (s : StateValue) (v : View) (answer : Option Class)
    → FitsView t v → IsClassed t.places most n s (seen_in v) answer old new → IsTable t most table old frontier goal taken → IsTable t most table new frontier goal taken
table_classed t most table old new frontier goal taken n s v answer fits classed is =
    elim (classed_boxes t.places most n s v answer old new classed) [
      | inl same ↦ record {
        few_states = is.few_states;
        few_boxes = is.few_boxes;
        states = is.states;
        waiting = is.waiting;
        reached = is.reached;
        held = is.held;
        boxes = subst (λ b. length b ≤ most.boxes) (sym same) is.boxes;
        of_task = subst (All (IsBoxOf t)) (sym same) is.of_task;
      }
      | inr (own, dead, less, more) ↦ record {
        few_states = is.few_states;
        few_boxes = is.few_boxes;
        states = is.states;
        waiting = is.waiting;
        reached = is.reached;
        held = is.held;
        boxes = subst (λ b. length b ≤ most.boxes) (sym more) (omega (arith, less, length-append old.boxes (own ∷ [])));
        of_task = subst (All (IsBoxOf t)) (sym more) (All-append (IsBoxOf t) old.boxes (own ∷ []) is.of_task
            (All-cons (IsBoxOf t) own [] (subst (FitsView t) dead fits) (All-nil (IsBoxOf t))));
      }
    ]

-- what was there stays in front

pub extends_same : (c c' : Configs) → c'.nodes ≡ c.nodes → c'.boxes ≡ c.boxes → Extends c c'
extends_same c c' nodes boxes = record { nodes = []; boxes = []; more_nodes = nodes ∙ sym (append-nil c.nodes); more_boxes = boxes ∙ sym (append-nil c.boxes) }

pub extends_on : (c d e : Configs) → Extends c d → Extends d e → Extends c e
extends_on c d e x y = record {
  nodes = x.nodes ++ y.nodes;
  boxes = x.boxes ++ y.boxes;
  more_nodes = y.more_nodes ∙ ap (λ k. k ++ y.nodes) x.more_nodes ∙ append_assoc c.nodes x.nodes y.nodes;
  more_boxes = y.more_boxes ∙ ap (λ k. k ++ y.boxes) x.more_boxes ∙ append_assoc c.boxes x.boxes y.boxes;
}

extends_added : (c c' : Configs) (x : Node StateValue) → c'.nodes ≡ c.nodes ++ x ∷ [] → c'.boxes ≡ c.boxes → Extends c c'
extends_added c c' x nodes boxes = record { nodes = x ∷ []; boxes = []; more_nodes = nodes; more_boxes = boxes ∙ sym (append-nil c.boxes) }

dead_extends : (places : List ℕ) (most : Most) (s : StateValue) (parent via : ℕ) (own : StateBox) (c c' : Configs) → IsDeadEntered places most s parent via own c c' → Extends c c'
dead_extends places most s parent via own c c' (inl (b, first, is)) = extends_added c c' _ (ap (λ k. k.nodes) is) (ap (λ k. k.boxes) is)
dead_extends places most s parent via own c c' (inr (none, inl (full, is))) = extends_same c c' (ap (λ k. k.nodes) is) (ap (λ k. k.boxes) is)
dead_extends places most s parent via own c c' (inr (none, inr (less, is))) = record { nodes = _; boxes = own ∷ []; more_nodes = ap (λ k. k.nodes) is; more_boxes = ap (λ k. k.boxes) is }

entered_extends : (places : List ℕ) (most : Most) (s : StateValue) (parent via : ℕ) (v : View) (c c' : Configs) → IsEnteredBy places most s parent via v c c' → Extends c c'
entered_extends places most s parent via view.Goal c c' is = extends_added c c' _ (ap (λ k. k.nodes) is) (ap (λ k. k.boxes) is)
entered_extends places most s parent via (view.Dead own) c c' is = dead_extends places most s parent via own c c' is
entered_extends places most s parent via (view.Live h) c c' is = extends_added c c' _ (ap (λ k. k.nodes) is) (ap (λ k. k.boxes) is)
entered_extends places most s parent via (view.LiveOver h) c c' is = extends_added c c' _ (ap (λ k. k.nodes) is) (ap (λ k. k.boxes) is)

pub met_extends : (places : List ℕ) (most : Most) (n a : ℕ) (o : Outcome) (c c' : Configs) → IsMet places most n a o c c' → Extends c c'
met_extends places most n a Blocked c c' is = extends_same c c' (ap (λ k. k.nodes) is) (ap (λ k. k.boxes) is)
met_extends places most n a Over c c' is = extends_same c c' (ap (λ k. k.nodes) is) (ap (λ k. k.boxes) is)
met_extends places most n a (Known m) c c' is = extends_same c c' (ap (λ k. k.nodes) is) (ap (λ k. k.boxes) is)
met_extends places most n a (InKept s) c c' (inl (known, is)) = extends_same c c' (ap (λ k. k.nodes) is) (ap (λ k. k.boxes) is)
met_extends places most n a (InKept s) c c' (inr (new, inl (full, is))) = extends_same c c' (ap (λ k. k.nodes) is) (ap (λ k. k.boxes) is)
met_extends places most n a (InKept s) c c' (inr (new, inr (room, inl (b, first, is)))) = extends_added c c' _ (ap (λ k. k.nodes) is) (ap (λ k. k.boxes) is)
met_extends places most n a (InKept s) c c' (inr (new, inr (room, inr (none, is)))) = extends_same c c' (ap (λ k. k.nodes) is) (ap (λ k. k.boxes) is)
met_extends places most n a (Next s v) c c' (inl (known, is)) = extends_same c c' (ap (λ k. k.nodes) is) (ap (λ k. k.boxes) is)
met_extends places most n a (Next s v) c c' (inr (new, inl (full, is))) = extends_same c c' (ap (λ k. k.nodes) is) (ap (λ k. k.boxes) is)
met_extends places most n a (Next s v) c c' (inr (new, inr (room, is))) = entered_extends places most s n a v c c' is

-- one outcome more is met
pub met_more : (places : List ℕ) (most : Most) (n : ℕ) (done : List Outcome) (o : Outcome) (start c d : Configs)
    → ((rest : List Outcome) (end : Configs) → AreMet places most n (length done) rest c end → AreMet places most n 0 (done ++ rest) start end)
    → IsMet places most n (length done) o c d
    → (rest : List Outcome) (end : Configs) → AreMet places most n (length (done ++ o ∷ [])) rest d end → AreMet places most n 0 ((done ++ o ∷ []) ++ rest) start end
met_more places most n done o start c d whole met rest end more =
    let long : length (done ++ o ∷ []) ≡ suc (length done) = omega (arith, length-append done (o ∷ [])) in
    subst (λ os. AreMet places most n 0 os start end) (sym (append_assoc done (o ∷ []) rest))
    (whole (o ∷ rest) end (d, met, subst (λ k. AreMet places most n k rest d end) long more))

-- a class by other names
pub as_classed : (places : List ℕ) (most : Most) {n m : ℕ} (s : StateValue) (v : View) {known : Seen} {answer b : Option Class} (old new : Kept)
    → IsClassed places most n s known answer old new → n ≡ m → known ≡ seen_in v → answer ≡ b → IsClassed places most m s (seen_in v) b old new
as_classed places most {n} {m} s v {known} {answer} {b} old new is p q r =
    subst (λ k. IsClassed places most k s (seen_in v) b old new) p
    (subst (λ k. IsClassed places most n s k b old new) q (subst (λ k. IsClassed places most n s known k old new) r is))

pub entered_as : (places : List ℕ) (most : Most) (nodes : Nodes) (s : StateValue) (parent via : ℕ) (old new : Kept) (cl : Class) (v : View) (st : Status) → st ≡ status_in cl (estimate_in v)
    → IsClassed places most (length nodes) s (seen_in v) (Some cl) old new
    → IsEntered places most s parent via v (with_kept nodes old) (with_kept (nodes ++ record { state = s; parent = parent; via = via; status = st } ∷ []) new)
entered_as places most nodes s parent via old new cl v st same is =
    subst (λ k. IsEntered places most s parent via v (with_kept nodes old) (with_kept (nodes ++ record { state = s; parent = parent; via = via; status = k } ∷ []) new)) (sym same)
    (entered_some places most nodes s parent via old new cl v is)

-- a new state is no node's
pub new_nodes : (es : List (StateValue × Rest)) (s : StateValue) → All (λ node. node.0 ≢ s) es → IsNew (map node_of es) s
new_nodes [] s apart k d within same = omega arith
new_nodes (e ∷ es) s apart zero d within same = apart zero e (omega arith) same
new_nodes (e ∷ es) s apart (suc k) d within same = new_nodes es s (λ i x inside. apart (suc i) x (omega arith)) k d (omega arith) same

pub not_node : (nodes : Nodes) (s : StateValue) → IsNew nodes s → IsNode nodes s → ⊥
not_node [] s new (n, x, at, is) = cc
not_node (y ∷ nodes) s new (zero, x, at, is) = let same : y ≡ x = cc in new zero x (omega arith) (ap (λ z. z.state) same ∙ is)
not_node (y ∷ nodes) s new (suc n, x, at, is) = not_node nodes s (λ i d inside. new (suc i) d (omega arith)) (n, x, at, is)

pub as_met : {t u : TaskValue} {most other : Most} {a b : ℕ} (n : ℕ) (o : Outcome) (c d : Configs) → IsMet t.places most n a o c d → t ≡ u → most ≡ other → a ≡ b → IsMet u.places other n b o c d
as_met {t} {u} {most} {other} {a} {b} n o c d is p q r =
    subst (λ k. IsMet k.places other n b o c d) p (subst (λ k. IsMet t.places k n b o c d) q (subst (λ k. IsMet t.places most n k o c d) r is))

-- what is found in the table is found among the nodes
pub known_node : (es : List (StateValue × Rest)) (s : StateValue) (o : Option ℕ) → IfSome o (λ n. (x : Rest) × IsAt es n (s, x))
    → IfSome o (λ n. (x : Node StateValue) × IsAt (map node_of es) n x × (x.state ≡ s))
known_node es s None is = is
known_node es s (Some n) (x, at) = (node_of (s, x), node_at es n (s, x) at, refl)

pub none_known : (es : List (StateValue × Rest)) (s : StateValue) (o : Option ℕ) → IfNone o (All (λ node. node.0 ≢ s) es) → IfNone o (IsNew (map node_of es) s)
none_known es s None is = new_nodes es s is
none_known es s (Some n) is = is

-- a status that is set back
pub set_back : (nodes : Nodes) (n : ℕ) (x : Node StateValue) (st : Status) → IsAt nodes n x → with_status (with_status nodes n st) n x.status ≡ nodes
set_back [] n x st at = cc
set_back (y ∷ nodes) zero x st at = let same : y ≡ x = cc in ap (λ z. record y { status = z.status } ∷ nodes) (sym same)
set_back (y ∷ nodes) (suc n) x st at = ap (λ rest. y ∷ rest) (set_back nodes n x st at)

-- what was added is taken out again
pub back_is : (old new : Table) (n len b : ℕ) (over : Option (ℕ × Site)) (full : Option Full) → SameTerms (WithNodes (with_status old.nodes n Closed) old) new
    → Extends (config_of (WithNodes (with_status old.nodes n Closed) old)) (config_of new) → len ≡ length old.nodes → b ≡ length old.boxes → over ≡ old.over → full ≡ old.full
    → ◌≡◌ {A = Table} (record { task = new.task; most = new.most; nodes = take len new.nodes; boxes = take b new.boxes; over = over; full = full }) (WithNodes (with_status old.nodes n Closed) old)
back_is old new n len b over full terms more p q r s =
    λ i. record { task = terms.task i; most = terms.most i; nodes = nodes_path i; boxes = boxes_path i; over = r i; full = s i }
  where
    nodes_path : take len new.nodes ≡ with_status old.nodes n Closed
    nodes_path = ap (take len) more.more_nodes ∙ ap (λ k. take k (with_status old.nodes n Closed ++ more.nodes)) (p ∙ sym (length-with_status old.nodes n Closed)) ∙ take-append_seam (with_status old.nodes n Closed) more.nodes

    boxes_path : take b new.boxes ≡ old.boxes
    boxes_path = ap (take b) more.more_boxes ∙ ap (λ k. take k (old.boxes ++ more.boxes)) q ∙ take-append_seam old.boxes more.boxes

-- and there are as many or more to take it from
pub back_within : (old new : Table) (n len : ℕ) → Extends (config_of (WithNodes (with_status old.nodes n Closed) old)) (config_of new) → len ≡ length old.nodes → len ≤ length new.nodes
back_within old new n len more p =
    omega (arith, p, length-with_status old.nodes n Closed, ap length more.more_nodes, length-append (with_status old.nodes n Closed) more.nodes)

pub closed_is_other : (nodes : Nodes) (n : ℕ) (x : Node StateValue) → IsAt nodes n x → IsOther (with_status nodes n Closed) n
closed_is_other nodes n x at y there goal =
    let same : y ≡ record x { status = Closed } = at_same (with_status nodes n Closed) n y (record x { status = Closed }) there (at_changed nodes n Closed x at) in
    let bad : Closed ≡ Goal = sym (ap (λ z. z.status) same) ∙ goal in
    cc

pub nil_if : {X : Type 0} (xs : List X) → length xs ≡ 0 → xs ≡ []
nil_if [] e = refl
nil_if (x ∷ xs) e = absurd (omega (arith, e))
