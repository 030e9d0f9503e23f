-- Two runs of one journal have alike nodes.
use Rattle.std.proofs.Common.{◌≡◌, ◌≢◌, ℕ, ◌<◌, zero, suc, List, [], ◌∷◌, ◌++◌, length, Option, None, Some, refl, sym, ap, subst, ◌∙◌, inl, inr, arith, length-append}
use Rattle.std.specs.Prelude.{⊤}
use Rattle.search_runs.specs.Nodes.{Config, IsNode, with_status, or_else, nothing, changed}
use Rattle.search_runs.specs.Runs.{Enters, no_room, in_kept, no_box, in_own, reaches, waits, waits_over, Meets, Gives, Leads, Run, starts, goes_on}
use Rattle.search_runs.specs.Spaces.{Yes, No, Overflow, Stepped, Blocked, Over, Next, Space, IsAt, IsLive, IsDeadState}
use Rattle.search_runs.specs.declared.answers.Full.TheVariants.{States, Boxes}
use Rattle.search_runs.specs.declared.events.Event.{Event}
use Rattle.search_runs.specs.declared.events.Event.TheVariants.{Start, Take, Give, Starve}
use Rattle.search_runs.specs.declared.nodes.Node.{Node}
use Rattle.search_runs.specs.declared.nodes.Status.{Status}
use Rattle.search_runs.specs.declared.nodes.Status.TheVariants.{Waiting, Taken, Closed, Dead, Goal}
use Rattle.search_runs.proofs.Places.{at_longer}

abbrev pub SameStatus : Status → Status → Type 0
SameStatus (Waiting h) t = t ≡ Waiting h
SameStatus (Taken w) t = t ≡ Taken w
SameStatus Closed t = t ≡ Closed
SameStatus Goal t = t ≡ Goal
SameStatus (Dead b) t = (k : ℕ) × (t ≡ Dead k)

module _ {S : Type 0} where
  abbrev pub IsAlike : Node S → Node S → Type 0
  IsAlike x y = (x.state ≡ y.state) × (x.parent ≡ y.parent) × (x.via ≡ y.via) × SameStatus x.status y.status

  abbrev pub AreAlike : List (Node S) → List (Node S) → Type 0
  AreAlike [] [] = ⊤
  AreAlike [] (y ∷ ys) = ⊥
  AreAlike (x ∷ xs) [] = ⊥
  AreAlike (x ∷ xs) (y ∷ ys) = IsAlike x y × AreAlike xs ys

  alike_at : (xs ys : List (Node S)) → AreAlike xs ys → (n : ℕ) (x : Node S) → IsAt xs n x → (y : Node S) × IsAt ys n y × IsAlike x y
  alike_at [] [] h n x e = cc
  alike_at [] (y ∷ ys) h n x e = absurd h
  alike_at (z ∷ xs) [] h n x e = absurd h
  alike_at (z ∷ xs) (y ∷ ys) h zero x e = let same : z ≡ x = cc in (y, refl, subst (λ w. IsAlike w y) same h.0)
  alike_at (z ∷ xs) (y ∷ ys) h (suc n) x e = alike_at xs ys h.1 n x e

  alike_back : (xs ys : List (Node S)) → AreAlike xs ys → (n : ℕ) (y : Node S) → IsAt ys n y → (x : Node S) × IsAt xs n x × IsAlike x y
  alike_back [] [] h n y e = cc
  alike_back [] (z ∷ ys) h n y e = absurd h
  alike_back (x ∷ xs) [] h n y e = absurd h
  alike_back (x ∷ xs) (z ∷ ys) h zero y e = let same : z ≡ y = cc in (x, refl, subst (IsAlike x) same h.0)
  alike_back (x ∷ xs) (z ∷ ys) h (suc n) y e = alike_back xs ys h.1 n y e

  alike_push : (xs ys : List (Node S)) (x y : Node S) → AreAlike xs ys → IsAlike x y → AreAlike (xs ++ x ∷ []) (ys ++ y ∷ [])
  alike_push [] [] x y h is = (is, tt)
  alike_push [] (z ∷ ys) x y h is = absurd h
  alike_push (z ∷ xs) [] x y h is = absurd h
  alike_push (z ∷ xs) (w ∷ ys) x y h is = (h.0, alike_push xs ys x y h.1 is)

  alike_set : (xs ys : List (Node S)) (n : ℕ) (s t : Status) → AreAlike xs ys → SameStatus s t → AreAlike (with_status xs n s) (with_status ys n t)
  alike_set [] [] n s t h is = tt
  alike_set [] (z ∷ ys) n s t h is = absurd h
  alike_set (z ∷ xs) [] n s t h is = absurd h
  alike_set (z ∷ xs) (w ∷ ys) zero s t h is = ((h.0.0, h.0.1, h.0.2, is), h.1)
  alike_set (z ∷ xs) (w ∷ ys) (suc n) s t h is = (h.0, alike_set xs ys n s t h.1 is)

  node_alike : (xs ys : List (Node S)) (s : S) → AreAlike xs ys → IsNode xs s → IsNode ys s
  node_alike xs ys s h (n, x, at, is) = let r = alike_at xs ys h n x at in (n, r.0, r.1, sym r.2.0 ∙ is)

  node_back : (xs ys : List (Node S)) (s : S) → AreAlike xs ys → IsNode ys s → IsNode xs s
  node_back xs ys s h (n, y, at, is) = let r = alike_back xs ys h n y at in (n, r.0, r.1, r.2.0 ∙ is)

none_or : {X : Type 0} (o : Option X) (x : X) → or_else o x ≡ None → ⊥
none_or None x e = cc
none_or (Some y) x e = cc

module _ {S B : Type 0} (g : Space S B) (goal_live : (s : S) → g.goal s ≡ Yes → IsDeadState g s → ⊥) (one : (s : S) (h k : ℕ) → g.IsEstimate s h → g.IsEstimate s k → h ≡ k)
    (keeps : (s : S) (b : B) → g.Keeps s b → g.IsDead b × g.Contains b s) where
  abbrev pub AreDead : List B → Type 0
  AreDead boxes = (b : ℕ) (box : B) → IsAt boxes b box → g.IsDead box

  data Kind (s : S) (st : Status) : Type 0 where
    dies : (b : ℕ) → IsDeadState g s → st ≡ Dead b → Kind s st
    wins : g.goal s ≡ Yes → st ≡ Goal → Kind s st
    stays : (h : ℕ) → IsLive g s → g.goal s ≢ Yes → g.IsEstimate s h → st ≡ Waiting h → Kind s st

  same_kind : (s : S) (st t : Status) → Kind s st → Kind s t → SameStatus st t
  same_kind s st t (dies b dead is) (dies k _ also) = subst (λ u. SameStatus u t) (sym is) (k, also)
  same_kind s st t (dies b dead is) (wins goal also) = absurd (goal_live s goal dead)
  same_kind s st t (dies b dead is) (stays h live other estimate also) = absurd (live dead)
  same_kind s st t (wins goal is) (dies k dead also) = absurd (goal_live s goal dead)
  same_kind s st t (wins goal is) (wins _ also) = subst (λ u. SameStatus u t) (sym is) also
  same_kind s st t (wins goal is) (stays h live other estimate also) = absurd (other goal)
  same_kind s st t (stays h live other estimate is) (dies k dead also) = absurd (live dead)
  same_kind s st t (stays h live other estimate is) (wins goal also) = absurd (other goal)
  same_kind s st t (stays h live other estimate is) (stays k _ _ estimate' also) = subst (λ u. SameStatus u t) (sym is) (also ∙ ap Waiting (one s k h estimate' estimate))

  -- without a mark the state is a node then
  pub record IsIn (s : S) (parent via : ℕ) (c d : Config S B) : Type 0 where
    status : Status
    kind : Kind s status
    nodes : d.nodes ≡ c.nodes ++ record { state = s; parent = parent; via = via; status = status } ∷ []
    full : c.full ≡ None
    dead : AreDead d.boxes

  enters_in : (s : S) (parent via : ℕ) (c d : Config S B) → AreDead c.boxes → d.full ≡ None → Enters g s parent via c d → IsIn s parent via c d
  enters_in s parent via c d dead none (no_room full is) = absurd (none_or c.full States (sym (ap (λ k. k.full) is) ∙ none))
  enters_in s parent via c d dead none (in_kept b room first is) = record { status = Dead b; kind = dies b (first.box, dead b first.box first.there, first.contains) refl; nodes = ap (λ k. k.nodes) is; full = sym (ap (λ k. k.full) is) ∙ none; dead = rw is dead }
  enters_in s parent via c d dead none (no_box room out is_dead full is) = absurd (none_or c.full Boxes (sym (ap (λ k. k.full) is) ∙ none))
  enters_in s parent via c d dead none (in_own b room out keep box_room is) =
      let k = keeps s b keep in
      record {
        status = Dead (length c.boxes);
        kind = dies (length c.boxes) (b, k.0, k.1) refl;
        nodes = ap (λ k. k.nodes) is;
        full = sym (ap (λ k. k.full) is) ∙ none;
        dead = rw is (λ m box at. elim (at_longer c.boxes b m box at) [ inl old ↦ dead m box old | inr (here, same) ↦ subst g.IsDead (sym same) k.0 ]);
      }
  enters_in s parent via c d dead none (reaches room goal is) = record { status = Goal; kind = wins goal refl; nodes = ap (λ k. k.nodes) is; full = sym (ap (λ k. k.full) is) ∙ none; dead = rw is dead }
  enters_in s parent via c d dead none (waits h room live estimate not_goal is) = record { status = Waiting h; kind = stays h live (λ e. let bad : Yes ≡ No = sym e ∙ not_goal in cc) estimate refl; nodes = ap (λ k. k.nodes) is; full = sym (ap (λ k. k.full) is) ∙ none; dead = rw is dead }
  enters_in s parent via c d dead none (waits_over h room live estimate unsure is) = record { status = Waiting h; kind = stays h live (λ e. let bad : Yes ≡ Overflow = sym e ∙ unsure in cc) estimate refl; nodes = ap (λ k. k.nodes) is; full = sym (ap (λ k. k.full) is) ∙ none; dead = rw is dead }

  -- what was before a step without a mark, and its boxes after
  met_before : (n a : ℕ) (step : Stepped S) (c c' : Config S B) → AreDead c.boxes → c'.full ≡ None → Meets g n a step c c' → (c.full ≡ None) × AreDead c'.boxes
  met_before n a Blocked c c' dead none is = (sym (ap (λ k. k.full) is) ∙ none, rw is dead)
  met_before n a Over c c' dead none is = (sym (ap (λ k. k.full) is) ∙ none, rw is dead)
  met_before n a (Next s) c c' dead none (inl (there, is)) = (sym (ap (λ k. k.full) is) ∙ none, rw is dead)
  met_before n a (Next s) c c' dead none (inr (out, enters)) = let r = enters_in s n a c c' dead none enters in (r.full, r.dead)

  met_alike : (n a : ℕ) (step : Stepped S) (c c' d d' : Config S B) → AreAlike c.nodes d.nodes → AreDead c.boxes → AreDead d.boxes → c'.full ≡ None → d'.full ≡ None → Meets g n a step c c' → Meets g n a step d d' → AreAlike c'.nodes d'.nodes
  met_alike n a Blocked c c' d d' alike dead dead' none none' is is' = rw (is, is') alike
  met_alike n a Over c c' d d' alike dead dead' none none' is is' = rw (is, is') alike
  met_alike n a (Next s) c c' d d' alike dead dead' none none' (inl (there, is)) (inl (there', is')) = rw (is, is') alike
  met_alike n a (Next s) c c' d d' alike dead dead' none none' (inl (there, is)) (inr (out, enters)) = absurd (out (node_alike c.nodes d.nodes s alike there))
  met_alike n a (Next s) c c' d d' alike dead dead' none none' (inr (out, enters)) (inl (there, is)) = absurd (out (node_back c.nodes d.nodes s alike there))
  met_alike n a (Next s) c c' d d' alike dead dead' none none' (inr (out, enters)) (inr (out', enters')) =
      let r = enters_in s n a c c' dead none enters in
      let q = enters_in s n a d d' dead' none' enters' in
      rw (r.nodes, q.nodes) (alike_push c.nodes d.nodes _ _ alike (refl, refl, refl, same_kind s r.status q.status r.kind q.kind))

  entered_full : (s : S) (parent via : ℕ) (c d : Config S B) → d.full ≡ None → Enters g s parent via c d → c.full ≡ None
  entered_full s parent via c d none (no_room full is) = absurd (none_or c.full States (sym (ap (λ k. k.full) is) ∙ none))
  entered_full s parent via c d none (in_kept b room first is) = sym (ap (λ k. k.full) is) ∙ none
  entered_full s parent via c d none (no_box room out is_dead full is) = absurd (none_or c.full Boxes (sym (ap (λ k. k.full) is) ∙ none))
  entered_full s parent via c d none (in_own b room out keep box_room is) = sym (ap (λ k. k.full) is) ∙ none
  entered_full s parent via c d none (reaches room goal is) = sym (ap (λ k. k.full) is) ∙ none
  entered_full s parent via c d none (waits h room live estimate not_goal is) = sym (ap (λ k. k.full) is) ∙ none
  entered_full s parent via c d none (waits_over h room live estimate unsure is) = sym (ap (λ k. k.full) is) ∙ none

  met_full : (n a : ℕ) (step : Stepped S) (c d : Config S B) → d.full ≡ None → Meets g n a step c d → c.full ≡ None
  met_full n a Blocked c d none is = sym (ap (λ k. k.full) is) ∙ none
  met_full n a Over c d none is = sym (ap (λ k. k.full) is) ∙ none
  met_full n a (Next s) c d none (inl (there, is)) = sym (ap (λ k. k.full) is) ∙ none
  met_full n a (Next s) c d none (inr (out, enters)) = entered_full s n a c d none enters

  gives_full : (left n : ℕ) (s : S) (a : ℕ) (c d : Config S B) → d.full ≡ None → Gives g n s a left c d → c.full ≡ None
  gives_full zero n s a c d none is = sym (ap (λ k. k.full) is) ∙ none
  gives_full (suc left) n s a c d none (mid, meet, rest) = met_full n a (g.step a s) c mid (gives_full left n s (suc a) mid d none rest) meet

  gives_alike : (left n : ℕ) (s : S) (a : ℕ) (c c' d d' : Config S B) → AreAlike c.nodes d.nodes → AreDead c.boxes → AreDead d.boxes → c'.full ≡ None → d'.full ≡ None → Gives g n s a left c c' → Gives g n s a left d d'
      → AreAlike c'.nodes d'.nodes × AreDead c'.boxes × AreDead d'.boxes
  gives_alike zero n s a c c' d d' alike dead dead' none none' is is' = (rw (is, is') alike, rw is dead, rw is' dead')
  gives_alike (suc left) n s a c c' d d' alike dead dead' none none' (mid, meet, rest) (mid', meet', rest') =
      let full = gives_full left n s (suc a) mid c' none rest in
      let full' = gives_full left n s (suc a) mid' d' none' rest' in
      gives_alike left n s (suc a) mid c' mid' d' (met_alike n a (g.step a s) c mid d mid' alike dead dead' full full' meet meet') (met_before n a (g.step a s) c mid dead full meet).1 (met_before n a (g.step a s) d mid' dead' full' meet').1 none none' rest rest'

  leads_full : (j : List Event) (c : Config S B) (e : Event) (d : Config S B) → d.full ≡ None → Leads g j c e d → c.full ≡ None
  leads_full j c Start d none is = absurd is
  leads_full j c (Take w n) d none is = is.no_mark
  leads_full j c (Give w n) d none is = gives_full g.actions n is.node.state 0 (changed n Closed c) d none is.after
  leads_full j c (Starve w) d none is = sym (ap (λ k. k.full) is.after) ∙ none

  leads_alike : (i j : List Event) (e : Event) (c c' d d' : Config S B) → AreAlike c.nodes d.nodes → AreDead c.boxes → AreDead d.boxes → c'.full ≡ None → d'.full ≡ None → Leads g i c e c' → Leads g j d e d'
      → AreAlike c'.nodes d'.nodes × AreDead c'.boxes × AreDead d'.boxes
  leads_alike i j Start c c' d d' alike dead dead' none none' is is' = absurd is
  leads_alike i j (Take w n) c c' d d' alike dead dead' none none' is is' = (rw (is.after, is'.after) (alike_set c.nodes d.nodes n (Taken w) (Taken w) alike refl), rw is.after dead, rw is'.after dead')
  leads_alike i j (Give w n) c c' d d' alike dead dead' none none' is is' =
      let r = alike_at c.nodes d.nodes alike n is.node is.there in
      let one_node : r.0 ≡ is'.node = (let e = r.1 in let f = is'.there in cc) in
      let one_state : is'.node.state ≡ is.node.state = sym (ap (λ x. x.state) one_node) ∙ sym r.2.0 in
      gives_alike g.actions n is.node.state 0 (changed n Closed c) c' (changed n Closed d) d' (alike_set c.nodes d.nodes n Closed Closed alike refl) dead dead' none none' is.after (subst (λ s. Gives g n s 0 g.actions (changed n Closed d) d') one_state is'.after)
  leads_alike i j (Starve w) c c' d d' alike dead dead' none none' is is' = (rw (is.after, is'.after) alike, rw is.after dead, rw is'.after dead')

  run_some : (j : List Event) (c : Config S B) → Run g j c → 0 < length j
  run_some _ _ (starts c enters) = omega arith
  run_some _ _ (goes_on j c e d run leads) = omega (arith, length-append j (e ∷ []))

  snoc_same : (xs ys : List Event) (x y : Event) → xs ++ x ∷ [] ≡ ys ++ y ∷ [] → (xs ≡ ys) × (x ≡ y)
  snoc_same [] [] x y e = (refl, cc)
  snoc_same [] (z ∷ ys) x y e = absurd (omega (arith, ap length e, length-append ys (y ∷ [])))
  snoc_same (z ∷ xs) [] x y e = absurd (omega (arith, ap length e, length-append xs (x ∷ [])))
  snoc_same (z ∷ xs) (w ∷ ys) x y e =
      let first : z ≡ w = cc in
      let rest : xs ++ x ∷ [] ≡ ys ++ y ∷ [] = cc in
      let r = snoc_same xs ys x y rest in
      ((λ i. first i ∷ r.0 i), r.1)

  -- the last step of a run
  last_step : (i : List Event) (d : Config S B) → Run g i d → (j : List Event) (e : Event) → 0 < length j → i ≡ j ++ e ∷ [] → (mid : Config S B) × Run g j mid × Leads g j mid e d
  last_step _ _ (starts c enters) j e some is = absurd (omega (arith, ap length is, length-append j (e ∷ [])))
  last_step _ _ (goes_on k c f d run leads) j e some is =
      let r = snoc_same k j f e is in
      (c, subst (λ l. Run g l c) r.0 run, subst (λ l. Leads g l c e d) r.0 (subst (λ h. Leads g k c h d) r.1 leads))

  first_step : (i : List Event) (d : Config S B) → Run g i d → i ≡ Start ∷ [] → Enters g g.initial 0 0 nothing d
  first_step _ _ (starts c enters) is = enters
  first_step _ _ (goes_on k c f d run leads) is = absurd (omega (arith, ap length is, length-append k (f ∷ []), run_some k c run))

  pub runs_alike : (j : List Event) (c d : Config S B) → Run g j c → Run g j d → c.full ≡ None → d.full ≡ None → AreAlike c.nodes d.nodes × AreDead c.boxes × AreDead d.boxes
  runs_alike j c d run other none none' = go j c run d other none none'
    where
      none_dead : AreDead []
      none_dead b box e = cc

      go : (j : List Event) (c : Config S B) → Run g j c → (d : Config S B) → Run g j d → c.full ≡ None → d.full ≡ None → AreAlike c.nodes d.nodes × AreDead c.boxes × AreDead d.boxes
      go _ _ (starts c enters) d other none none' =
          let r = enters_in g.initial 0 0 nothing c none_dead none enters in
          let q = enters_in g.initial 0 0 nothing d none_dead none' (first_step (Start ∷ []) d other refl) in
          (rw (r.nodes, q.nodes) ((refl, refl, refl, same_kind g.initial r.status q.status r.kind q.kind), tt), r.dead, q.dead)
      go _ _ (goes_on j c e c' run leads) d other none none' =
          let (mid, run', leads') = last_step (j ++ e ∷ []) d other j e (run_some j c run) refl in
          let r = go j c run mid run' (leads_full j c e c' none leads) (leads_full j mid e d none' leads') in
          leads_alike j j e c c' mid d r.0 r.1 r.2 none none' leads leads'
