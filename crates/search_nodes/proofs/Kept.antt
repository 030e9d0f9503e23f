-- The parts of a table stay in step as nodes come, change and go.
use Rattle.std.proofs.Common.{◌≡◌, ◌≢◌, ℕ, ◌<◌, ◌≤◌, ◌+◌, ◌-◌, ◌==◌, zero, suc, Bool, true, false, cond, List, [], ◌∷◌, ◌++◌, map, length, take, slice_get, Option, None, Some, All, refl, sym, ap, subst, ◌∙◌, arith, length-append, if◌then◌else◌}
use Rattle.std.specs.Option.{option_map}
use Rattle.std.proofs.lemmas.Bool.{false_from_ne_true, eqb-true, eq-eqb}
use Rattle.std.proofs.lemmas.List.{map-append, take-map, length-take-le}
use Rattle.ground_task.specs.States.{StateValue}
use Rattle.ground_task.specs.Tasks.{TaskValue}
use Rattle.box_model.specs.Boxes.{IsBoxOf}
use Rattle.open_list.specs.Frontier.{Frontier, pair_cmp}
use Rattle.explored.specs.Kept.{Kept}
use Rattle.explored.specs.declared.classes.Most.{Most}
use Rattle.search_nodes.proofs.Frontiers.{none_beyond, frontier_longer, frontier_pushed, frontier_removed, frontier_same, frontier_shorter, frontier_popped}
use Rattle.search_nodes.specs.Parts.{CanJoin, joined_frontier, joined_goal, joined_taken, left_frontier, left_goal, left_taken}
use Rattle.indexmap.specs.IndexMap.{set_value_at}
use Rattle.std.specs.FinSet.{empty, contains-empty}
use Rattle.std.proofs.lemmas.List.Elements.{All-nil}
use Rattle.search_nodes.specs.Tables.{IsFrontierOf, IsNew, IsTable, NoneWaits, node_of}
use Rattle.search_runs.proofs.Finding.{waits_only}
use Rattle.search_runs.proofs.Stays.{some_where}
use Rattle.std.specs.Prelude.{is_some}
use Rattle.search_nodes.specs.declared.nodes.Rest.{Rest}
use Rattle.search_runs.proofs.Marks.{count-added, count-changed, count-within}
use Rattle.search_runs.proofs.Places.{length-with_status}
use Rattle.search_runs.specs.Answers.{count, first_where, is_goal, is_taken, is_waiting}
use Rattle.search_runs.specs.Nodes.{with_status}
use Rattle.search_runs.specs.Spaces.{IsAt}
use Rattle.search_runs.specs.declared.nodes.Node.{Node}
use Rattle.search_runs.specs.declared.nodes.Status.{Status}
use Rattle.search_runs.specs.declared.nodes.Status.TheVariants.{Waiting, Taken, Closed, Goal, Dead}

abbrev Nodes : Type 0
Nodes = List (Node StateValue)

pub length-nodes : (es : List (StateValue × Rest)) → length (map node_of es) ≡ length es
length-nodes [] = refl
length-nodes (e ∷ es) = ap suc (length-nodes es)

-- a node more

pub can_join : (frontier : Frontier) (nodes : Nodes) (st : Status) → IsFrontierOf frontier nodes → CanJoin frontier (length nodes) st
can_join frontier nodes st is = λ h waits. none_beyond frontier nodes h is

frontier_joined : (frontier : Frontier) (nodes : Nodes) (x : Node StateValue) (st : Status) → x.status ≡ st → IsFrontierOf frontier nodes → IsFrontierOf (joined_frontier frontier (length nodes) st) (nodes ++ x ∷ [])
frontier_joined frontier nodes x (Waiting k) same is = frontier_pushed frontier nodes x k same is
frontier_joined frontier nodes x (Taken w) same is = frontier_longer frontier nodes x (λ h e. let bad : Taken w ≡ Waiting h = sym same ∙ e in cc) is
frontier_joined frontier nodes x Closed same is = frontier_longer frontier nodes x (λ h e. let bad : Closed ≡ Waiting h = sym same ∙ e in cc) is
frontier_joined frontier nodes x Goal same is = frontier_longer frontier nodes x (λ h e. let bad : Goal ≡ Waiting h = sym same ∙ e in cc) is
frontier_joined frontier nodes x (Dead b) same is = frontier_longer frontier nodes x (λ h e. let bad : Dead b ≡ Waiting h = sym same ∙ e in cc) is

-- the first goal node, where this one comes after n others
abbrev goal_after : Option ℕ → ℕ → Bool → Option ℕ
goal_after None n b = if b then Some n else None
goal_after (Some k) n b = Some k

first_added : (p : Status → Bool) (nodes : Nodes) (x : Node StateValue) → first_where p (nodes ++ x ∷ []) ≡ goal_after (first_where p nodes) (length nodes) (p x.status)
first_added p [] x = by (p x.status)
  where
    by : (b : Bool) → ◌≡◌ {A = Option ℕ} (if b then Some 0 else None) (if b then Some 0 else None)
    by b = refl
first_added p (y ∷ nodes) x = by (p y.status) (first_where p nodes) (p x.status) (first_added p nodes x)
  where
    by : (b : Bool) (o : Option ℕ) (c : Bool) → first_where p (nodes ++ x ∷ []) ≡ goal_after o (length nodes) c
        → (if b then Some 0 else option_map suc (first_where p (nodes ++ x ∷ []))) ≡ goal_after (if b then Some 0 else option_map suc o) (suc (length nodes)) c
    by true o c is = refl
    by false None true is = ap (option_map suc) is
    by false None false is = ap (option_map suc) is
    by false (Some k) c is = ap (option_map suc) is

goal_joined : (goal : Option ℕ) (nodes : Nodes) (x : Node StateValue) → goal ≡ first_where is_goal nodes → joined_goal goal (length nodes) x.status ≡ first_where is_goal (nodes ++ x ∷ [])
goal_joined goal nodes x same = by goal x.status refl ∙ ap (λ o. goal_after o (length nodes) (is_goal x.status)) same ∙ sym (first_added is_goal nodes x)
  where
    by : (o : Option ℕ) (st : Status) → x.status ≡ st → joined_goal o (length nodes) st ≡ goal_after o (length nodes) (is_goal st)
    by (Some k) st e = refl
    by None (Waiting h) e = refl
    by None (Taken w) e = refl
    by None Closed e = refl
    by None Goal e = refl
    by None (Dead b) e = refl

pub table_pushed : (t : TaskValue) (most : Most) (table : List (StateValue × Rest)) (e : Kept) (frontier : Frontier) (goal : Option ℕ) (taken : ℕ) (s : StateValue) (rest : Rest)
    → length table < most.states → is_taken rest.status ≡ false → IsTable t most table e frontier goal taken
    → IsTable t most (table ++ (s, rest) ∷ []) e (joined_frontier frontier (length table) rest.status) (joined_goal goal (length table) rest.status) taken
table_pushed t most table e frontier goal taken s rest room untaken is =
    let nodes = map node_of table in
    let x : Node StateValue = node_of (s, rest) in
    let longer : map node_of (table ++ (s, rest) ∷ []) ≡ nodes ++ x ∷ [] = map-append node_of table ((s, rest) ∷ []) in
    let same_len = length-nodes table in
    let zero_more : ◌≡◌ {A = ℕ} (cond (is_taken rest.status) 1 0) 0 = ap (λ b. cond {A = ℕ} b 1 0) untaken in
    record {
      few_states = is.few_states;
      few_boxes = is.few_boxes;
      states = omega (arith, room, length-append table ((s, rest) ∷ []));
      boxes = is.boxes;
      of_task = is.of_task;
      waiting = subst (IsFrontierOf (joined_frontier frontier (length table) rest.status)) (sym longer)
          (subst (λ n. IsFrontierOf (joined_frontier frontier n rest.status) (nodes ++ x ∷ [])) same_len (frontier_joined frontier nodes x rest.status refl is.waiting));
      reached = ap (λ n. joined_goal goal n rest.status) (sym same_len) ∙ goal_joined goal nodes x is.reached ∙ ap (first_where is_goal) (sym longer);
      held = is.held ∙ by zero_more (count-added is_taken nodes x) ∙ ap (count is_taken) (sym longer);
    }
  where
    by : ◌≡◌ {A = ℕ} (cond (is_taken rest.status) 1 0) 0 → count is_taken (map node_of table ++ node_of (s, rest) ∷ []) ≡ count is_taken (map node_of table) + cond (is_taken rest.status) 1 0
        → count is_taken (map node_of table) ≡ count is_taken (map node_of table ++ node_of (s, rest) ∷ [])
    by none more = omega (arith, none, more)

-- another status

frontier_changed : (frontier : Frontier) (nodes : Nodes) (n : ℕ) (x : Node StateValue) (st old : Status) → IsAt nodes n x → x.status ≡ old → is_waiting st ≡ false → IsFrontierOf frontier nodes
    → IsFrontierOf (left_frontier frontier n old) (with_status nodes n st)
frontier_changed frontier nodes n x st (Waiting k) at same unwaiting is = frontier_removed frontier nodes n k st x at same (not_waiting st unwaiting) is
  where
    not_waiting : (st : Status) → is_waiting st ≡ false → (h : ℕ) → st ≢ Waiting h
    not_waiting st unwaiting h e = let bad : false ≡ true = sym unwaiting ∙ ap is_waiting e in cc
frontier_changed frontier nodes n x st (Taken w) at same unwaiting is = frontier_same frontier nodes n st x at (λ h e. let bad : Taken w ≡ Waiting h = sym same ∙ e in cc) (λ h e. let bad : false ≡ true = sym unwaiting ∙ ap is_waiting e in cc) is
frontier_changed frontier nodes n x st Closed at same unwaiting is = frontier_same frontier nodes n st x at (λ h e. let bad : Closed ≡ Waiting h = sym same ∙ e in cc) (λ h e. let bad : false ≡ true = sym unwaiting ∙ ap is_waiting e in cc) is
frontier_changed frontier nodes n x st Goal at same unwaiting is = frontier_same frontier nodes n st x at (λ h e. let bad : Goal ≡ Waiting h = sym same ∙ e in cc) (λ h e. let bad : false ≡ true = sym unwaiting ∙ ap is_waiting e in cc) is
frontier_changed frontier nodes n x st (Dead b) at same unwaiting is = frontier_same frontier nodes n st x at (λ h e. let bad : Dead b ≡ Waiting h = sym same ∙ e in cc) (λ h e. let bad : false ≡ true = sym unwaiting ∙ ap is_waiting e in cc) is

first_changed : (p : Status → Bool) (nodes : Nodes) (n : ℕ) (st : Status) (x : Node StateValue) → IsAt nodes n x → p x.status ≡ p st → first_where p (with_status nodes n st) ≡ first_where p nodes
first_changed p [] n st x at same = refl
first_changed p (y ∷ nodes) zero st x at same =
    let is : y ≡ x = cc in
    ap (λ b. if b then Some 0 else option_map suc (first_where p nodes)) (sym same ∙ ap (λ z. p z.status) (sym is))
first_changed p (y ∷ nodes) (suc n) st x at same = ap (λ o. if p y.status then Some 0 else option_map suc o) (first_changed p nodes n st x at same)

-- a taken node is counted
pub taken_counted : (nodes : Nodes) (n : ℕ) (x : Node StateValue) → IsAt nodes n x → is_taken x.status ≡ true → 0 < count is_taken nodes
taken_counted nodes n x at taken =
    let one_more : ◌≡◌ {A = ℕ} (cond (is_taken x.status) 1 0) 1 = ap (λ b. cond {A = ℕ} b 1 0) taken in
    omega (arith, one_more, count-changed is_taken nodes n Closed x at)

left_is : (taken : ℕ) (st : Status) → left_taken taken st ≡ taken - cond (is_taken st) 1 0
left_is taken (Waiting h) = omega arith
left_is taken (Taken w) = refl
left_is taken Closed = omega arith
left_is taken Goal = omega arith
left_is taken (Dead b) = omega arith

joined_is : (taken : ℕ) (st : Status) → joined_taken taken st ≡ taken + cond (is_taken st) 1 0
joined_is taken (Waiting h) = omega arith
joined_is taken (Taken w) = omega arith
joined_is taken Closed = omega arith
joined_is taken Goal = omega arith
joined_is taken (Dead b) = omega arith

taken_changed : (nodes : Nodes) (n : ℕ) (x : Node StateValue) (st : Status) → IsAt nodes n x → joined_taken (left_taken (count is_taken nodes) x.status) st ≡ count is_taken (with_status nodes n st)
taken_changed nodes n x st at =
    let less : count is_taken (with_status nodes n Closed) + cond (is_taken x.status) 1 0 ≡ count is_taken nodes + 0 = count-changed is_taken nodes n Closed x at in
    omega (arith, less, count-changed is_taken nodes n st x at, joined_is (left_taken (count is_taken nodes) x.status) st, left_is (count is_taken nodes) x.status)

pub table_changed : (t : TaskValue) (most : Most) (table new : List (StateValue × Rest)) (e : Kept) (frontier : Frontier) (goal : Option ℕ) (taken n : ℕ) (x : Node StateValue) (st : Status)
    → IsAt (map node_of table) n x → x.status ≢ Goal → is_waiting st ≡ false → is_goal st ≡ false → map node_of new ≡ with_status (map node_of table) n st → IsTable t most table e frontier goal taken
    → IsTable t most new e (left_frontier frontier n x.status) goal (joined_taken (left_taken taken x.status) st)
table_changed t most table new e frontier goal taken n x st at not_goal unwaiting unreached changed is =
    let nodes = map node_of table in
    record {
      few_states = is.few_states;
      few_boxes = is.few_boxes;
      states = omega (arith, is.states, length-nodes table, length-nodes new, ap length changed, length-with_status nodes n st);
      boxes = is.boxes;
      of_task = is.of_task;
      waiting = subst (IsFrontierOf (left_frontier frontier n x.status)) (sym changed) (frontier_changed frontier nodes n x st x.status at refl unwaiting is.waiting);
      reached = is.reached ∙ sym (first_changed is_goal nodes n st x at (unreached_as x.status not_goal ∙ sym unreached)) ∙ ap (first_where is_goal) (sym changed);
      held = ap (λ k. joined_taken (left_taken k x.status) st) is.held ∙ taken_changed nodes n x st at ∙ ap (count is_taken) (sym changed);
    }
  where
    unreached_as : (st : Status) → st ≢ Goal → is_goal st ≡ false
    unreached_as (Waiting h) other = refl
    unreached_as (Taken w) other = refl
    unreached_as Closed other = refl
    unreached_as Goal other = absurd (other refl)
    unreached_as (Dead b) other = refl

-- the last node goes

frontier_left : (frontier : Frontier) (nodes : Nodes) (x : Node StateValue) (st : Status) → x.status ≡ st → IsFrontierOf frontier (nodes ++ x ∷ []) → IsFrontierOf (left_frontier frontier (length nodes) st) nodes
frontier_left frontier nodes x (Waiting k) same is = frontier_popped frontier nodes x k same is
frontier_left frontier nodes x (Taken w) same is = frontier_shorter frontier nodes x (λ h e. let bad : Taken w ≡ Waiting h = sym same ∙ e in cc) is
frontier_left frontier nodes x Closed same is = frontier_shorter frontier nodes x (λ h e. let bad : Closed ≡ Waiting h = sym same ∙ e in cc) is
frontier_left frontier nodes x Goal same is = frontier_shorter frontier nodes x (λ h e. let bad : Goal ≡ Waiting h = sym same ∙ e in cc) is
frontier_left frontier nodes x (Dead b) same is = frontier_shorter frontier nodes x (λ h e. let bad : Dead b ≡ Waiting h = sym same ∙ e in cc) is

first_within : (p : Status → Bool) (nodes : Nodes) (n : ℕ) → first_where p nodes ≡ Some n → n < length nodes
first_within p [] n e = cc
first_within p (y ∷ nodes) n e = by (p y.status) (first_where p nodes) refl e (first_within p nodes)
  where
    by : (b : Bool) (o : Option ℕ) → first_where p nodes ≡ o → (if b then Some 0 else option_map suc o) ≡ Some n → ((m : ℕ) → first_where p nodes ≡ Some m → m < length nodes) → n < suc (length nodes)
    by true o was e inside = let zero_is : zero ≡ n = cc in omega (arith, zero_is)
    by false None was e inside = cc
    by false (Some m) was e inside = let next : suc m ≡ n = cc in omega (arith, next, inside m was)

goal_left : (goal : Option ℕ) (nodes : Nodes) (x : Node StateValue) → goal ≡ first_where is_goal (nodes ++ x ∷ []) → left_goal goal (length nodes) ≡ first_where is_goal nodes
goal_left goal nodes x same = ap (λ o. left_goal o (length nodes)) (same ∙ first_added is_goal nodes x) ∙ by (first_where is_goal nodes) refl (is_goal x.status)
  where
    by : (o : Option ℕ) → first_where is_goal nodes ≡ o → (b : Bool) → left_goal (goal_after o (length nodes) b) (length nodes) ≡ o
    by None was true = ap (λ b. if b then None else Some (length nodes)) (eq-eqb (length nodes) (length nodes) refl)
    by None was false = refl
    by (Some k) was b = ap (λ b. if b then None else Some k) (apart k (first_within is_goal nodes k was))
      where
        apart : (k : ℕ) → k < length nodes → (k == length nodes) ≡ false
        apart k less = false_from_ne_true (k == length nodes) (λ e. let same : k ≡ length nodes = eqb-true k (length nodes) e in omega (arith, same, less))

-- the items but the last, and the last
pub last_split : {X : Type 0} (n : ℕ) (xs : List X) (x : X) → slice_get xs n ≡ Some x → length xs ≡ suc n → xs ≡ take n xs ++ x ∷ []
last_split n [] x at long = cc
last_split zero (y ∷ []) x at long = let same : y ≡ x = cc in ap (λ z. z ∷ []) same
last_split zero (y ∷ z ∷ xs) x at long = absurd (omega (arith, long))
last_split (suc n) (y ∷ xs) x at long = ap (λ r. y ∷ r) (last_split n xs x at (omega (arith, long)))

pub table_popped : (t : TaskValue) (most : Most) (table : List (StateValue × Rest)) (e : Kept) (frontier : Frontier) (goal : Option ℕ) (taken : ℕ) (s : StateValue) (rest : Rest)
    → IsTable t most (table ++ (s, rest) ∷ []) e frontier goal taken
    → IsTable t most table e (left_frontier frontier (length table) rest.status) (left_goal goal (length table)) (left_taken taken rest.status)
table_popped t most table e frontier goal taken s rest is =
    let nodes = map node_of table in
    let x : Node StateValue = node_of (s, rest) in
    let longer : map node_of (table ++ (s, rest) ∷ []) ≡ nodes ++ x ∷ [] = map-append node_of table ((s, rest) ∷ []) in
    let same_len = length-nodes table in
    record {
      few_states = is.few_states;
      few_boxes = is.few_boxes;
      states = omega (arith, is.states, length-append table ((s, rest) ∷ []));
      boxes = is.boxes;
      of_task = is.of_task;
      waiting = subst (λ n. IsFrontierOf (left_frontier frontier n rest.status) nodes) same_len
          (frontier_left frontier nodes x rest.status refl (subst (IsFrontierOf frontier) longer is.waiting));
      reached = ap (left_goal goal) (sym same_len) ∙ goal_left goal nodes x (is.reached ∙ ap (first_where is_goal) longer);
      held = left_is taken rest.status ∙ by (is.held ∙ ap (count is_taken) longer) (count-added is_taken nodes x);
    }
  where
    by : taken ≡ count is_taken (map node_of table ++ node_of (s, rest) ∷ []) → count is_taken (map node_of table ++ node_of (s, rest) ∷ []) ≡ count is_taken (map node_of table) + cond (is_taken rest.status) 1 0
        → taken - cond (is_taken rest.status) 1 0 ≡ count is_taken (map node_of table)
    by held more = omega (arith, held, more)

-- a state that is no node's is no key
pub new_key : (es : List (StateValue × Rest)) (s : StateValue) → IsNew (map node_of es) s → All (λ node. node.0 ≢ s) es
new_key [] s new k d within same = omega arith
new_key (e ∷ es) s new zero d within same = new zero (node_of e) (omega arith) same
new_key (e ∷ es) s new (suc k) d within same = new_key es s (λ i x inside. new (suc i) x (omega arith)) k d (omega arith) same

-- other data of a node
pub length-set : (es : List (StateValue × Rest)) (n : ℕ) (r : Rest) → length (set_value_at es n r) ≡ length es
length-set [] n r = refl
length-set (e ∷ es) zero r = refl
length-set (e ∷ es) (suc n) r = ap suc (length-set es n r)

-- the node of a pair
pub node_at : (es : List (StateValue × Rest)) (n : ℕ) (e : StateValue × Rest) → IsAt es n e → IsAt (map node_of es) n (node_of e)
node_at [] n e at = cc
node_at (d ∷ es) zero e at = let same : d ≡ e = cc in ap (λ k. Some (node_of k)) same
node_at (d ∷ es) (suc n) e at = node_at es n e at

pub status_set : (es : List (StateValue × Rest)) (n : ℕ) (s : StateValue) (r : Rest) (st : Status) → IsAt es n (s, r)
    → map node_of (set_value_at es n (record r { status = st })) ≡ with_status (map node_of es) n st
status_set [] n s r st at = cc
status_set (d ∷ es) zero s r st at = let same : d ≡ (s, r) = cc in ap (λ k. record { state = d.0; parent = k.1.parent; via = k.1.via; status = st } ∷ map node_of es) (sym same)
status_set (d ∷ es) (suc n) s r st at = ap (λ k. node_of d ∷ k) (status_set es n s r st at)

-- the table of no node
pub table_empty : (t : TaskValue) (most : Most) → most.states ≤ 1000000000 → most.boxes ≤ 1000000000 → IsTable t most [] (record { boxes = []; over = None; full = None }) empty None 0
table_empty t most states boxes = record {
  few_states = states;
  few_boxes = boxes;
  states = omega arith;
  boxes = omega arith;
  of_task = All-nil (IsBoxOf t);
  waiting = λ h n. ((λ there. let bad : false ≡ true = sym (contains-empty pair_cmp (h, n)) ∙ there in cc), (λ w. let at = w.1 in cc));
  reached = refl;
  held = refl;
}

-- the table without its last node
pub table_shorter : (t : TaskValue) (most : Most) (table : List (StateValue × Rest)) (e : Kept) (frontier : Frontier) (goal : Option ℕ) (taken n : ℕ) (s : StateValue) (rest : Rest)
    → IsAt table n (s, rest) → length table ≡ suc n → IsTable t most table e frontier goal taken
    → IsTable t most (take n table) e (left_frontier frontier n rest.status) (left_goal goal n) (left_taken taken rest.status)
table_shorter t most table e frontier goal taken n s rest at long is =
    let split = last_split n table (s, rest) at long in
    let short : length (take n table) ≡ n = length-take-le n table (omega (arith, long)) in
    subst (λ m. IsTable t most (take n table) e (left_frontier frontier m rest.status) (left_goal goal m) (left_taken taken rest.status)) short
    (table_popped t most (take n table) e frontier goal taken s rest (subst (λ k. IsTable t most k e frontier goal taken) split is))

-- a taken node is counted, by the table
pub taken_some : (t : TaskValue) (most : Most) (table : List (StateValue × Rest)) (e : Kept) (frontier : Frontier) (goal : Option ℕ) (taken n : ℕ) (s : StateValue) (rest : Rest)
    → IsAt table n (s, rest) → IsTable t most table e frontier goal taken → is_taken rest.status ≡ true → 0 < taken
taken_some t most table e frontier goal taken n s rest at is held =
    subst (λ k. 0 < k) (sym is.held) (taken_counted (map node_of table) n (node_of (s, rest)) (node_at table n (s, rest) at) held)

pub taken_few : (t : TaskValue) (most : Most) (table : List (StateValue × Rest)) (e : Kept) (frontier : Frontier) (goal : Option ℕ) (taken : ℕ) (st : Status)
    → IsTable t most table e frontier goal taken → left_taken taken st ≤ 1000000000
taken_few t most table e frontier goal taken st is =
    omega (arith, left_is taken st, is.held, count-within is_taken (map node_of table), length-nodes table, is.states, is.few_states)

pub nodes_shorter : (table : List (StateValue × Rest)) (n : ℕ) → length table ≡ suc n → map node_of (take n table) ≡ take (length (map node_of table) - 1) (map node_of table)
nodes_shorter table n long =
    let same : n ≡ length (map node_of table) - 1 = omega (arith, long, length-nodes table) in
    sym (take-map node_of n table) ∙ ap (λ k. take k (map node_of table)) same

-- the parts by other names
pub same_table : (t : TaskValue) (most : Most) (e : Kept) {table table' : List (StateValue × Rest)} {frontier frontier' : Frontier} {goal goal' : Option ℕ} {taken taken' : ℕ}
    → table' ≡ table → frontier' ≡ frontier → goal' ≡ goal → taken' ≡ taken → IsTable t most table e frontier goal taken → IsTable t most table' e frontier' goal' taken'
same_table t most e {table} {table'} {frontier} {frontier'} {goal} {goal'} {taken} {taken'} p q r s is =
    subst (λ k. IsTable t most k e frontier' goal' taken') (sym p)
    (subst (λ f. IsTable t most table e f goal' taken') (sym q)
    (subst (λ g. IsTable t most table e frontier g taken') (sym r)
    (subst (λ k. IsTable t most table e frontier goal k) (sym s) is)))

-- where none waits, none is found
pub none_first : (nodes : Nodes) → NoneWaits nodes → is_some (first_where is_waiting nodes) ≡ false
none_first nodes none = by (first_where is_waiting nodes) refl
  where
    by : (o : Option ℕ) → first_where is_waiting nodes ≡ o → is_some o ≡ false
    by None e = refl
    by (Some n) e = let r = some_where is_waiting nodes n e in let w = waits_only r.0.status r.2 in absurd (none w.0 n r.0 r.1 w.1)
