-- Equal events lead alike configurations to alike ones, and in a plain run the next event is fixed.
use Rattle.std.proofs.Common.{◌≡◌, ℕ, zero, suc, true, false, List, [], ◌∷◌, ◌++◌, None, refl, sym, ap, subst, ◌∙◌, inl, inr, arith}
use Rattle.plain_runs.proofs.Entering.{AreLike, OneOfEach, entered_like, noted_like}
use Rattle.search_runs.specs.Answers.{first_where, is_taken}
use Rattle.search_runs.specs.Nodes.{Config, IsNode, changed, nothing, with_status}
use Rattle.search_runs.specs.PlainRuns as plain
use Rattle.search_runs.specs.PlainRuns.{IsAlone, PlainRun}
use Rattle.search_runs.specs.Runs.{Enters, no_room, in_kept, no_box, in_own, reaches, waits, waits_over, Meets, Gives, IsLeastWaiting, Leads, has_starve}
use Rattle.search_runs.specs.Spaces.{Space, Stepped, Blocked, Over, Next, IsAt}
use Rattle.search_runs.specs.declared.answers.Site.TheVariants as site
use Rattle.search_runs.specs.declared.events.Event.{Event}
use Rattle.search_runs.specs.declared.events.Event.TheVariants.{Start, Take, Give, Starve}
use Rattle.search_runs.specs.declared.nodes.Node.{Node}
use Rattle.search_runs.specs.declared.nodes.Status.{Status}
use Rattle.search_runs.specs.declared.nodes.Status.TheVariants.{Waiting, Taken, Closed, Goal, Dead}
use Rattle.search_runs.proofs.Places.{at_before, at_longer, at_same}
use Rattle.search_runs.proofs.Stays.{none_where, starved-Starve}

module _ {S B : Type 0} (g : Space S B) (Alike : B → B → Type 0) (one : OneOfEach g Alike) where
  changed_like : (n : ℕ) (st : Status) (c d : Config S B) → AreLike g Alike c d → AreLike g Alike (changed n st c) (changed n st d)
  changed_like n st c d like = record {
    nodes = ap (λ k. with_status k n st) like.nodes;
    over = like.over;
    full = like.full;
    boxes = like.boxes;
    dead = like.dead;
    dead_too = like.dead_too;
  }

  meets_like : (n a : ℕ) (step : Stepped S) (c d c' d' : Config S B) → AreLike g Alike c d → Meets g n a step c c' → Meets g n a step d d' → AreLike g Alike c' d'
  meets_like n a Blocked c d c' d' like is is' = rw (is, is') like
  meets_like n a Over c d c' d' like is is' = rw (is, is') (noted_like g Alike one n n (site.Action a) c d refl like)
  meets_like n a (Next s) c d c' d' like (inl (there, is)) (inl (there', is')) = rw (is, is') like
  meets_like n a (Next s) c d c' d' like (inl (there, is)) (inr (new, enters)) = absurd (new (subst (λ k. IsNode k s) like.nodes there))
  meets_like n a (Next s) c d c' d' like (inr (new, enters)) (inl (there, is)) = absurd (new (subst (λ k. IsNode k s) (sym like.nodes) there))
  meets_like n a (Next s) c d c' d' like (inr (new, enters)) (inr (new', enters')) = entered_like g Alike one s n a c d c' d' like enters enters'

  gives_like : (left n : ℕ) (s : S) (a : ℕ) (c d c' d' : Config S B) → AreLike g Alike c d → Gives g n s a left c c' → Gives g n s a left d d' → AreLike g Alike c' d'
  gives_like zero n s a c d c' d' like is is' = rw (is, is') like
  gives_like (suc left) n s a c d c' d' like (mid, meet, rest) (mid', meet', rest') =
      gives_like left n s (suc a) mid mid' c' d' (meets_like n a (g.step a s) c d mid mid' like meet meet') rest rest'

  pub leads_like : (i j : List Event) (e : Event) (c d c' d' : Config S B) → AreLike g Alike c d → Leads g i c e c' → Leads g j d e d' → AreLike g Alike c' d'
  leads_like i j Start c d c' d' like is is' = absurd is
  leads_like i j (Take w n) c d c' d' like is is' = rw (is.after, is'.after) (changed_like n (Taken w) c d like)
  leads_like i j (Give w n) c d c' d' like is is' =
      let same : is'.node ≡ is.node = at_same d.nodes n is'.node is.node is'.there (subst (λ k. IsAt k n is.node) like.nodes is.there) in
      gives_like g.actions n is.node.state 0 (changed n Closed c) (changed n Closed d) c' d' (changed_like n Closed c d like) is.after
      (subst (λ (x : Node S). Gives g n x.state 0 g.actions (changed n Closed d) d') same is'.after)
  leads_like i j (Starve w) c d c' d' like is is' = rw (is.after, is'.after) like

module _ {S : Type 0} where
  -- no two nodes are taken
  abbrev pub OneTaken : List (Node S) → Type 0
  OneTaken nodes = (m n v w : ℕ) (x y : Node S) → IsAt nodes m x → x.status ≡ Taken v → IsAt nodes n y → y.status ≡ Taken w → m ≡ n

  least_same : (nodes : List (Node S)) (m n h k : ℕ) → IsLeastWaiting nodes m h → IsLeastWaiting nodes n k → m ≡ n
  least_same nodes m n h k is other =
      elim (is.least n k other.node other.there other.waits) [
        | inl less ↦ elim (other.least m h is.node is.there is.waits) [ inl more ↦ omega (arith, less, more) | inr (same, le) ↦ omega (arith, less, same) ]
        | inr (same, le) ↦ elim (other.least m h is.node is.there is.waits) [ inl more ↦ omega (arith, same, more) | inr (also, ge) ↦ omega (arith, le, ge) ]
      ]

module _ {S B : Type 0} (g : Space S B) where
  -- who is taken after a state enters was so before
  before_entered : (s : S) (parent via : ℕ) (c d : Config S B) (n w : ℕ) (x : Node S) → Enters g s parent via c d → IsAt d.nodes n x → x.status ≡ Taken w → IsAt c.nodes n x
  before_entered s parent via c d n w x enters at taken = by enters
    where
      longer : (st : Status) → ((v : ℕ) → st ≡ Taken v → ⊥) → IsAt (c.nodes ++ record { state = s; parent = parent; via = via; status = st } ∷ []) n x → IsAt c.nodes n x
      longer st other more =
          elim (at_longer c.nodes (record { state = s; parent = parent; via = via; status = st }) n x more) [
            | inl old ↦ old
            | inr (here, same) ↦ absurd (other w (sym (ap (λ z. z.status) same) ∙ taken))
          ]

      by : Enters g s parent via c d → IsAt c.nodes n x
      by (no_room full is) = subst (λ k. IsAt k.nodes n x) is at
      by (in_kept b room first is) = longer (Dead b) (λ v e. cc) (subst (λ k. IsAt k.nodes n x) is at)
      by (no_box room out dead full is) = subst (λ k. IsAt k.nodes n x) is at
      by (in_own b room out keep box_room is) = longer (Dead _) (λ v e. cc) (subst (λ k. IsAt k.nodes n x) is at)
      by (reaches room goal is) = longer Goal (λ v e. cc) (subst (λ k. IsAt k.nodes n x) is at)
      by (waits h room live estimate not_goal is) = longer (Waiting h) (λ v e. cc) (subst (λ k. IsAt k.nodes n x) is at)
      by (waits_over h room live estimate unsure is) = longer (Waiting h) (λ v e. cc) (subst (λ k. IsAt k.nodes n x) is at)

  before_met : (m a : ℕ) (step : Stepped S) (c d : Config S B) (n w : ℕ) (x : Node S) → Meets g m a step c d → IsAt d.nodes n x → x.status ≡ Taken w → IsAt c.nodes n x
  before_met m a Blocked c d n w x is at taken = subst (λ k. IsAt k.nodes n x) is at
  before_met m a Over c d n w x is at taken = subst (λ k. IsAt k.nodes n x) is at
  before_met m a (Next s) c d n w x (inl (there, is)) at taken = subst (λ k. IsAt k.nodes n x) is at
  before_met m a (Next s) c d n w x (inr (new, enters)) at taken = before_entered s m a c d n w x enters at taken

  before_given : (left m : ℕ) (s : S) (a : ℕ) (c d : Config S B) (n w : ℕ) (x : Node S) → Gives g m s a left c d → IsAt d.nodes n x → x.status ≡ Taken w → IsAt c.nodes n x
  before_given zero m s a c d n w x is at taken = subst (λ k. IsAt k.nodes n x) is at
  before_given (suc left) m s a c d n w x (mid, meet, rest) at taken =
      before_met m a (g.step a s) c mid n w x meet (before_given left m s (suc a) mid d n w x rest at taken) taken

  -- a node that is taken after a give was so before
  before_give : (w m : ℕ) (s : S) (c d : Config S B) (n v : ℕ) (x : Node S) → Gives g m s 0 g.actions (changed m Closed c) d → IsAt d.nodes n x → x.status ≡ Taken v → IsAt c.nodes n x
  before_give w m s c d n v x is at taken =
      elim (at_before c.nodes m Closed n x (before_given g.actions m s 0 (changed m Closed c) d n v x is at taken)) [
        | inl (other, old) ↦ old
        | inr (same, y, old, closed) ↦ absurd (let bad : Closed ≡ Taken v = sym (ap (λ z. z.status) closed) ∙ taken in cc)
      ]

  -- where none was taken, the node that is taken then is this one
  only_taken : (w m : ℕ) (c : Config S B) (n v : ℕ) (x : Node S) → first_where is_taken c.nodes ≡ None → IsAt (with_status c.nodes m (Taken w)) n x → x.status ≡ Taken v → n ≡ m
  only_taken w m c n v x none at taken =
      elim (at_before c.nodes m (Taken w) n x at) [
        | inl (other, old) ↦ absurd (none_where is_taken c.nodes none n x old (ap is_taken taken))
        | inr (same, y, old, is) ↦ same
      ]

  leads_one : (j : List Event) (c : Config S B) (e : Event) (d : Config S B) → OneTaken c.nodes → IsAlone g c.nodes e → Leads g j c e d → OneTaken d.nodes
  leads_one j c Start d one alone is = absurd is
  leads_one j c (Take w k) d one alone is = λ m n v u x y at taken also held.
      only_taken w k c m v x alone (subst (λ f. IsAt f.nodes m x) is.after at) taken ∙ sym (only_taken w k c n u y alone (subst (λ f. IsAt f.nodes n y) is.after also) held)
  leads_one j c (Give w k) d one alone is = λ m n v u x y at taken also held.
      one m n v u x y (before_give w k is.node.state c d m v x is.after at taken) taken (before_give w k is.node.state c d n u y is.after also held) held
  leads_one j c (Starve w) d one alone is = λ m n v u x y at taken also held.
      one m n v u x y (subst (λ f. IsAt f.nodes m x) is.after at) taken (subst (λ f. IsAt f.nodes n y) is.after also) held

  -- in a plain run no two nodes are taken
  pub one_taken : (j : List Event) (c : Config S B) → PlainRun g j c → OneTaken c.nodes
  one_taken _ _ (plain.starts c enters) = λ m n v u x y at taken also held.
      absurd (let none : IsAt {X = Node S} [] m x = before_entered g.initial 0 0 nothing c m v x enters at taken in cc)
  one_taken _ _ (plain.goes_on j c e d run none alone leads) = leads_one j c e d (one_taken j c run) alone leads

  -- the next event
  pub event_same : (i j : List Event) (c d c' d' : Config S B) (e f : Event) → g.workers ≡ 1 → c.nodes ≡ d.nodes → OneTaken c.nodes → IsAlone g c.nodes e → IsAlone g d.nodes f → Leads g i c e c' → Leads g j d f d'
      → has_starve (i ++ e ∷ []) ≡ false → has_starve (j ++ f ∷ []) ≡ false → e ≡ f
  event_same i j c d c' d' Start f single same one alone also is is' fed fed' = absurd is
  event_same i j c d c' d' (Take w n) Start single same one alone also is is' fed fed' = absurd is'
  event_same i j c d c' d' (Take w n) (Take v m) single same one alone also is is' fed fed' =
      let worker : w ≡ v = omega (arith, is.worker, is'.worker, single) in
      let node : n ≡ m = least_same d.nodes n m is.h is'.h (subst (λ k. IsLeastWaiting k n is.h) same is.is_least) is'.is_least in
      (λ k. Take (worker k) (node k))
  event_same i j c d c' d' (Take w n) (Give v m) single same one alone also is is' fed fed' =
      absurd (none_where is_taken d.nodes (subst (λ k. first_where is_taken k ≡ None) same alone) m is'.node is'.there (ap is_taken is'.taken))
  event_same i j c d c' d' (Take w n) (Starve v) single same one alone also is is' fed fed' = absurd (let bad : true ≡ false = sym (starved-Starve j v) ∙ fed' in cc)
  event_same i j c d c' d' (Give w n) Start single same one alone also is is' fed fed' = absurd is'
  event_same i j c d c' d' (Give w n) (Take v m) single same one alone also is is' fed fed' =
      absurd (none_where is_taken c.nodes (subst (λ k. first_where is_taken k ≡ None) (sym same) also) n is.node is.there (ap is_taken is.taken))
  event_same i j c d c' d' (Give w n) (Give v m) single same one alone also is is' fed fed' =
      let there : IsAt c.nodes m is'.node = subst (λ k. IsAt k m is'.node) (sym same) is'.there in
      let node : n ≡ m = one n m w v is.node is'.node is.there is.taken there is'.taken in
      let which : is.node ≡ is'.node = at_same c.nodes m is.node is'.node (subst (λ k. IsAt c.nodes k is.node) node is.there) there in
      let both : Taken w ≡ Taken v = sym is.taken ∙ ap (λ z. z.status) which ∙ is'.taken in
      let worker : w ≡ v = cc in
      (λ k. Give (worker k) (node k))
  event_same i j c d c' d' (Give w n) (Starve v) single same one alone also is is' fed fed' = absurd (let bad : true ≡ false = sym (starved-Starve j v) ∙ fed' in cc)
  event_same i j c d c' d' (Starve w) f single same one alone also is is' fed fed' = absurd (let bad : true ≡ false = sym (starved-Starve i w) ∙ fed in cc)
