-- Each kind of step keeps the rule.
use Rattle.std.proofs.Common.{◌≡◌, ◌≢◌, ℕ, ◌+◌, ◌%◌, ◌^◌, ◌<◌, ◌≤◌, Bool, true, false, List, [], ◌∷◌, ◌++◌, length, get_or, set, Option, Some, None, option_map, Contains, nat_lt, cond, sym, refl, ap, ◌∙◌, subst, inl, inr, ⊎_elim, arith, All, eqb, eq-eqb, ne_eqb}
use Rattle.std.proofs.lemmas.List.{set-get_or, length-set, length_push, get_or-set_same, get_or-set_other}
use Rattle.std.proofs.lemmas.List.Elements.{All-cons}
use Rattle.std.proofs.lemmas.Bool.{ltb-true}
use mathlib.Core.Option.{some}
use mathlib.Core.Option as maybe
use mathlib.Core.Logic.{dite}
use native.Mathlib.Decide.{ℕ_discrete}
use lib.ListN.{get_elem?}
use Rattle.atomic_table.specs.Table.{State, Me, keeps, Allows}
use Rattle.atomic_table.proofs.Lists.{at_set}
use Rattle.word_rows.specs.declared.view.Line.{Line}
use Rattle.word_rows.specs.declared.view.View.{View}
use Rattle.word_rows.specs.Views.{line, claimed, pushed, opened, missed, learnt, written, Knows}
use Rattle.word_rows.specs.Rule.{row_start, IsReadyRow, IsUnderWay, IsWriting, IsViewOf, IsRowAt, claim_count, seat_count, Kept}
use Rattle.word_rows.proofs.Sums.{total-set, total_within}
use Rattle.word_rows.proofs.Places.{stands_set, stands_push, inside_table, spares_count, spares_ready, spares_word, ready_stays, row_stays, under_way_stays, view_stays}

module _ (width : ℕ) (IsEntry : List ℕ → Type 0) (seats : ℕ) where
  abbrev pub St : Type 0
  St = State (Unit {0}) View

  abbrev pub Mine : Type 0
  Mine = Me (Unit {0}) View

  abbrev pub Rule : St → Type 0
  Rule = Kept width IsEntry seats

  -- the seat `id` goes from the view v to w, and a word may change
  replaced : (s : St) (k : Rule s) (id : ℕ) (v w : View) (words : List ℕ) (homes : List (maybe.Option (Unit {0}))) (owner : ℕ → ℕ) → get_elem? s.views id ≡ some v
      → length words ≡ length s.words → w.seats ≡ v.seats → get_or words 0 0 + length v.claims ≡ get_or s.words 0 0 + length w.claims
      → ((row : ℕ) → row < 1024 → IsRowAt width IsEntry words row)
      → IsViewOf width words owner id w → ((j : ℕ) (u : View) → j ≢ id → IsViewOf width s.words k.owner j u → IsViewOf width words owner j u)
      → Rule record { words = words; homes = homes; views = set s.views id w }
  replaced s k id v w words homes owner at len same drawn rows mine others = record {
    owner = owner;
    sized = len ∙ k.sized;
    counted = let e = total-set claim_count s.views id v w at in let h = k.counted in omega arith;
    shared_out = let e = total-set seat_count s.views id v w at in let h = k.shared_out in omega arith;
    few_seats = k.few_seats;
    each_row = rows;
    each_view = λ j u e. ⊎_elim
        (λ (p : (j ≡ id) × (w ≡ u)). subst (λ (x : View). IsViewOf width words owner j x) p.1 (subst (λ (i : ℕ). IsViewOf width words owner i w) (sym p.0) mine))
        (λ (p : (j ≢ id) × (get_elem? s.views j ≡ some u)). others j u p.0 (k.each_view j u p.1))
        (at_set s.views id j w u e);
  }

  -- a load after which the view is w
  loaded_as : (s : St) (k : Rule s) (id i : ℕ) (v w : View) → get_elem? s.views id ≡ some v → w.seats ≡ v.seats → w.claims ≡ v.claims → IsViewOf width s.words k.owner id w
      → Rule record { words = set s.words i (get_or s.words i 0); homes = s.homes; views = set s.views id w }
  loaded_as s k id i v w at same claims mine = subst (λ (x : List ℕ). Rule record { words = x; homes = s.homes; views = set s.views id w }) (sym (set-get_or s.words i 0))
      (replaced s k id v w s.words s.homes k.owner at refl same (ap (λ (l : List ℕ). get_or s.words 0 0 + length l) (sym claims)) k.each_row mine (λ j u _ h. h))

  -- no count wraps
  few_drawn : (s : St) (k : Rule s) → get_or s.words 0 0 ≤ 68719476736
  few_drawn s k = let a = k.counted in let b = k.shared_out in let c = k.few_seats in
      let m = total_within claim_count seat_count s.views (λ j u e. (k.each_view j u e).few_claims) in omega arith

  known_ready : (table : List ℕ) (owner : ℕ → ℕ) (seat : ℕ) (v : View) (l : Line) → IsViewOf width table owner seat v → Contains v.known l → IsReadyRow width table l.row l.words
  known_ready table owner seat v l h c = subst (λ (x : Line). IsReadyRow width table x.row x.words) c.2 (h.knows c.0 l c.1)

  -- the row that a seat writes
  under_way : (table : List ℕ) (owner : ℕ → ℕ) (seat row : ℕ) (words : List ℕ) (v : View) → v.writing ≡ Some (line row words) → IsViewOf width table owner seat v → IsUnderWay width table owner seat (line row words)
  under_way table owner seat row words v is h = subst (IsWriting width table owner seat) is h.writes

  -- a row that is ready isn't one that is written
  ready_else : (table : List ℕ) (q row : ℕ) (words : List ℕ) → get_or table (row + 1) 0 ≡ 0 → IsReadyRow width table q words → q ≢ row
  ready_else table q row words shut h e = let one = h.ready in let same = ap (λ (r : ℕ). get_or table (r + 1) 0) e in omega arith

  -- two seats write different rows
  written_else : (table : List ℕ) (owner : ℕ → ℕ) (id j row : ℕ) (l : Line) → j ≢ id → owner row ≡ id → IsUnderWay width table owner j l → l.row ≢ row
  written_else table owner id j row l ne own h e = ne (sym h.own ∙ (ap owner e ∙ own))

  begins : (b : Bool) (table : List ℕ) (owner : ℕ → ℕ) (seat : ℕ) (l : Line) → (b ≡ true → IsUnderWay width table owner seat l) → IsWriting width table owner seat (cond b (Some l) None)
  begins true table owner seat l h = h refl
  begins false table owner seat l h = tt

  -- a number is drawn
  pub claims : (slots id : ℕ) (me : Mine) (then : ℕ → Mine → Type 0) → length me.0.claims < 2 ^ 32 → 1 ≤ me.0.seats
      → ((n : ℕ) → then n (claimed me.0 n, me.1)) → Allows Rule slots id me 0 (λ n. (n + 1) % 2 ^ 64) then
  claims slots id me then few some_seat told s k _ at _ = let n : ℕ = get_or s.words 0 0 in let v : View = me.0 in let fits = few_drawn s k in let size = k.sized in
      let wraps : (n + 1) % 18446744073709551616 ≡ n + 1 = omega arith in let table : List ℕ = set s.words 0 ((n + 1) % 2 ^ 64) in let room : 0 < length s.words = omega arith in
      let drawn : get_or table 0 0 ≡ n + 1 = get_or-set_same s.words 0 ((n + 1) % 2 ^ 64) 0 room ∙ wraps in let more : n ≤ get_or table 0 0 = omega arith in
      let o = k.each_view id v at in let owner : ℕ → ℕ = λ c. cond (eqb c n) id (k.owner c) in (
        claimed v n,
        keeps,
        tt,
        replaced s k id v (claimed v n) table s.homes owner at (length-set s.words 0 ((n + 1) % 2 ^ 64)) refl (omega (arith, length_push v.claims n))
            (λ row h. row_stays width IsEntry s.words row 0 ((n + 1) % 2 ^ 64) (spares_count width row) more (k.each_row row h))
            record {
              few_claims = omega (arith, length_push v.claims n);
              knows = λ i d lt. ready_stays width s.words (get_or v.known i d).row (get_or v.known i d).words 0 ((n + 1) % 2 ^ 64) (spares_count width (get_or v.known i d).row) (o.knows i d lt);
              writes = begins (nat_lt n 1024) table owner id (line n []) (λ b. let lt : n < 1024 = ltb-true n 1024 b in record {
                inside = lt;
                claimed = omega arith;
                own = ap (λ (b : Bool). cond b id (k.owner n)) (eq-eqb n n refl);
                shut = get_or-set_other s.words 0 (n + 1) ((n + 1) % 2 ^ 64) 0 (λ e. omega arith) ∙ ⊎_elim (λ shut. shut) (λ t. absurd (let l = t.0 in omega arith)) (k.each_row n lt);
                part = omega arith;
                stands = λ j lt. absurd (omega arith);
              });
            }
            (λ j u ne h. view_stays width s.words table k.owner owner j u (λ row words. ready_stays width s.words row words 0 ((n + 1) % 2 ^ 64) (spares_count width row))
            (λ l under. under_way_stays width s.words k.owner owner j 0 ((n + 1) % 2 ^ 64) l (spares_count width l.row) more
            (ap (λ (b : Bool). cond b id (k.owner l.row)) (ne_eqb l.row n (λ e. let lt = under.claimed in omega arith))) under) h),
        told n,
      )

  -- the next word of the row that is written is stored
  pub stores : (slots id : ℕ) (me : Mine) (row word : ℕ) (words : List ℕ) (then : ℕ → Mine → Type 0) → me.0.writing ≡ Some (line row words) → length words < width
      → ((n : ℕ) → then n (pushed me.0 word, me.1)) → Allows Rule slots id me (row_start width row + length words) (λ _. word) then
  stores slots id me row word words then is short told s k _ at _ = let v : View = me.0 in let place : ℕ = row_start width row + length words in let table : List ℕ = set s.words place word in
      let o = k.each_view id v at in let under = under_way s.words k.owner id row words v is o in let size = k.sized in let inside = inside_table width row (length words) under.inside short in
      let room : place < length s.words = omega arith in
      let same : get_or table 0 0 ≡ get_or s.words 0 0 = get_or-set_other s.words place 0 word 0 (λ e. omega arith) in let more : get_or s.words 0 0 ≤ get_or table 0 0 = omega arith in
      let free = λ (q : ℕ) (ne : q ≢ row) (lt : q < 1024). spares_word width q row (length words) ne lt short in (
        pushed v word,
        keeps,
        tt,
        replaced s k id v (pushed v word) table s.homes k.owner at (length-set s.words place word) refl (ap (λ (m : ℕ). m + length v.claims) same)
            (λ q lt. dite (ℕ_discrete q row)
            (λ e. inl (get_or-set_other s.words place (q + 1) word 0 (λ e. omega arith) ∙ (ap (λ (r : ℕ). get_or s.words (r + 1) 0) e ∙ under.shut)))
            (λ ne. row_stays width IsEntry s.words q place word (free q ne lt) more (k.each_row q lt)))
            record {
              few_claims = o.few_claims;
              knows = λ i d lt. let h = o.knows i d lt in ready_stays width s.words (get_or v.known i d).row (get_or v.known i d).words place word
                  (free (get_or v.known i d).row (ready_else s.words (get_or v.known i d).row row (get_or v.known i d).words under.shut h) h.inside) h;
              writes = subst (λ (w : Option Line). IsWriting width table k.owner id (option_map (λ l. line l.row (l.words ++ word ∷ [])) w)) (sym is) record {
                inside = under.inside;
                claimed = let lt = under.claimed in omega arith;
                own = under.own;
                shut = get_or-set_other s.words place (row + 1) word 0 (λ e. let lt = under.inside in omega arith) ∙ under.shut;
                part = omega (arith, length_push words word);
                stands = stands_push s.words words (row_start width row) word room under.stands;
              };
            }
            (λ j u ne h. view_stays width s.words table k.owner k.owner j u
            (λ q words' h'. ready_stays width s.words q words' place word (free q (ready_else s.words q row words' under.shut h') h'.inside) h')
            (λ l w. under_way_stays width s.words k.owner k.owner j place word l (free l.row (written_else s.words k.owner id j row l ne under.own w) w.inside) more refl w) h),
        told (get_or s.words place 0),
      )

  -- the row that was written is opened
  pub opens : (slots id : ℕ) (me : Mine) (row : ℕ) (words : List ℕ) (then : ℕ → Mine → Type 0) → me.0.writing ≡ Some (line row words) → length words ≡ width → IsEntry words
      → ((n : ℕ) → then n (opened me.0, me.1)) → Allows Rule slots id me (row + 1) (λ _. 1) then
  opens slots id me row words then is whole entry told s k _ at _ = let v : View = me.0 in let table : List ℕ = set s.words (row + 1) 1 in
      let o = k.each_view id v at in let under = under_way s.words k.owner id row words v is o in let size = k.sized in let inside = under.inside in
      let room : row + 1 < length s.words = omega arith in
      let same : get_or table 0 0 ≡ get_or s.words 0 0 = get_or-set_other s.words (row + 1) 0 1 0 (λ e. omega arith) in let more : get_or s.words 0 0 ≤ get_or table 0 0 = omega arith in
      let free = λ (q : ℕ) (ne : q ≢ row). spares_ready width q row ne inside in
      let now : IsReadyRow width table row words = record {
        inside = inside;
        ready = get_or-set_same s.words (row + 1) 1 0 room;
        whole = whole;
        stands = stands_set s.words words (row_start width row) (row + 1) 1 (λ j lt e. omega arith) under.stands;
      } in
      let stays = λ (q : ℕ) (words' : List ℕ) (h : IsReadyRow width s.words q words'). ready_stays width s.words q words' (row + 1) 1 (free q (ready_else s.words q row words' under.shut h)) h in (
        opened v,
        keeps,
        tt,
        replaced s k id v (opened v) table s.homes k.owner at (length-set s.words (row + 1) 1) refl (ap (λ (m : ℕ). m + length v.claims) same)
            (λ q lt. dite (ℕ_discrete q row)
            (λ e. subst (IsRowAt width IsEntry table) (sym e) (inr ((let d = under.claimed in omega arith), words, now, entry)))
            (λ ne. row_stays width IsEntry s.words q (row + 1) 1 (free q ne) more (k.each_row q lt)))
            record {
              few_claims = o.few_claims;
              knows = subst (λ (w : Option Line). All (λ l. IsReadyRow width table l.row l.words) (written w ++ v.known)) (sym is)
                  (All-cons (λ l. IsReadyRow width table l.row l.words) (line row words) v.known now (λ i d lt. stays (get_or v.known i d).row (get_or v.known i d).words (o.knows i d lt)));
              writes = tt;
            }
            (λ j u ne h. view_stays width s.words table k.owner k.owner j u stays
            (λ l w. under_way_stays width s.words k.owner k.owner j (row + 1) 1 l (free l.row (written_else s.words k.owner id j row l ne under.own w)) more refl w) h),
        told (get_or s.words (row + 1) 0),
      )

  -- a load of a ready word
  pub looks : (slots id : ℕ) (me : Mine) (row : ℕ) (then : ℕ → Mine → Type 0) → row < 1024
      → ((n : ℕ) → n ≡ 0 → ((words : List ℕ) → Knows me.0 row words → ⊥) → then n (missed me.0 row, me.1))
      → ((n : ℕ) (words : List ℕ) → n ≡ 1 → length words ≡ width → IsEntry words → then n (learnt me.0 row words, me.1))
      → Allows Rule slots id me (row + 1) (λ n. n) then
  looks slots id me row then inside shut_told ready_told s k _ at _ = let v : View = me.0 in let o = k.each_view id v at in ⊎_elim
      (λ (shut : get_or s.words (row + 1) 0 ≡ 0). (
        missed v row,
        keeps,
        tt,
        loaded_as s k id (row + 1) v (missed v row) at refl refl record { few_claims = o.few_claims; knows = o.knows; writes = o.writes },
        shut_told (get_or s.words (row + 1) 0) shut (λ words c. let one = (known_ready s.words k.owner id v (line row words) o c).ready in omega arith),
      ))
      (λ t. (
        learnt v row t.1,
        keeps,
        tt,
        loaded_as s k id (row + 1) v (learnt v row t.1) at refl refl record {
          few_claims = o.few_claims;
          knows = All-cons (λ l. IsReadyRow width s.words l.row l.words) (line row t.1) v.known t.2 o.knows;
          writes = o.writes;
        },
        ready_told (get_or s.words (row + 1) 0) t.1 t.2.ready t.2.whole t.3,
      ))
      (k.each_row row inside)

  -- a load of a word of a row
  pub reads : (slots id : ℕ) (me : Mine) (place : ℕ) (then : ℕ → Mine → Type 0)
      → ((n : ℕ) → ((l : Line) → Contains me.0.known l → (j : ℕ) → j < width → place ≡ row_start width l.row + j → n ≡ get_or l.words j 0) → then n me)
      → Allows Rule slots id me place (λ n. n) then
  reads slots id me place then told s k _ at _ = let v : View = me.0 in let o = k.each_view id v at in (
    v,
    keeps,
    tt,
    loaded_as s k id place v v at refl refl o,
    told (get_or s.words place 0) (λ l c j lt e. let h = known_ready s.words k.owner id v l o c in let whole = h.whole in
        ap (λ (i : ℕ). get_or s.words i 0) e ∙ h.stands j (omega arith)),
  )
