-- What is told of a job against whose files no reason stands.
use Rattle.std.proofs.Common.{◌≡◌, ℕ, zero, suc, ◌≤◌, List, [], ◌∷◌, length, Option, Some, inl, inr, slice_get, map, refl, sym, subst, ◌∙◌, arith}
use Rattle.edge_io.specs.Causes.{Rose}
use Rattle.edge_io.specs.Folder.{Folder}
use Rattle.edge_io.specs.declared.files.Files.{Ghosts}
use Rattle.enhsp_words.specs.declared.job.Job.{Job}
use Rattle.whole_files.specs.Gathered.{AreTexts, IsLarge, IsText}
use Rattle.whole_files.specs.Seen.{Seen, saw}
use Rattle.whole_files.specs.declared.wanted.Wanted.{Wanted}
use Rattle.enhsp_run.specs.Answers.{AnswersBuilt, AnswersJob, AnswersRead, IsAnswer}
use Rattle.enhsp_run.specs.Answers.AnswersBuilt.{read, missing, too_large}
use Rattle.enhsp_run.specs.Commands.{CommandRules, Entry, entry_of, wanted_file}
use Rattle.enhsp_run.specs.Commands.Entry.{Built, Unbuilt}
use Rattle.enhsp_run.specs.Ends.{EndsBy, EndsWith, IsAccepted, IsAcceptedBy}
use Rattle.enhsp_run.specs.Told.{Told}
use Rattle.enhsp_run.proofs.Laws.{Keeps, KeepsBuilt, keeps}

-- ---- texts of told files

-- told files have one text each
same_texts : (folder : Folder) (files : List Wanted) (xs ys : List (List ℕ)) → AreTexts (Some folder) files xs → AreTexts (Some folder) files ys → xs ≡ ys
same_texts folder [] [] [] one other = refl
same_texts folder [] [] (y ∷ ys) one other = absurd other
same_texts folder [] (x ∷ xs) ys one other = absurd one
same_texts folder (f ∷ files) [] ys one other = absurd one
same_texts folder (f ∷ files) (x ∷ xs) [] one other = absurd other
same_texts folder (f ∷ files) (x ∷ xs) (y ∷ ys) one other =
    let first : Some x ≡ Some y = sym one.0.is_told ∙ other.0.is_told in
    let rest : xs ≡ ys = same_texts folder files xs ys one.1 other.1 in cc (first, rest)

-- the file at a place has a text
text_at : (folder : Folder) (files : List Wanted) (texts : List (List ℕ)) (k : ℕ) (file : Wanted) → AreTexts (Some folder) files texts → slice_get files k ≡ Some file → (text : List ℕ) × IsText (Some folder) file text
text_at folder [] texts k file are kth = absurd (cc kth)
text_at folder (f ∷ files) [] k file are kth = absurd are
text_at folder (f ∷ files) (t ∷ texts) zero file are kth =
    let same : f ≡ file = cc kth in (t, subst (λ (w : Wanted). IsText (Some folder) w t) same are.0)
text_at folder (f ∷ files) (t ∷ texts) (suc k) file are kth = text_at folder files texts k file are.1 kth

no_large : (folder : Folder) (file : Wanted) (text : List ℕ) → IsText (Some folder) file text → IsLarge folder file → ⊥
no_large folder file text is large =
    let same : text ≡ large.0 = cc (is.is_told, large.1) in
    omega (arith, subst (λ (t : List ℕ). length t ≤ file.limit) same is.small, large.2)

-- ---- what is told

-- the files are told, and they are the call's
abbrev Given : CommandRules → Folder → Job → List (List ℕ) → Type 0
Given rules folder job texts = AreTexts (Some folder) (map (wanted_file job) rules.files) texts

accepted_built : (rules : CommandRules) (folder : Folder) (fb fa bb ba ma : ℕ) (job : Job) (texts : List (List ℕ)) (told : Told) → Keeps rules → Given rules folder job texts → rules.IsAccepted job texts → AnswersBuilt rules (record { told = Some folder; faults_before = fb; faults_after = fa; begun_before = bb; begun_after = ba; mark_after = ma }) job told → (Rose fb fa → ⊥) → rules.EndsWith job texts told.status
accepted_built rules folder fb fa bb ba ma job texts told laws given accepted (read ts t are is) calm =
    let same : ts ≡ texts = same_texts folder (map (wanted_file job) rules.files) ts texts are.are_texts given in
    laws.accepted job texts t accepted (subst (λ (x : List (List ℕ)). rules.IsAnswer job x t) same is)
accepted_built rules folder fb fa bb ba ma job texts told laws given accepted (missing k file kth at) calm =
    let there = text_at folder (map (wanted_file job) rules.files) texts k at.file given at.kth in
    elim at.cause [
      | inl rose ↦ absurd (calm (subst (λ (m : ℕ). Rose m fa) at.no_fault_before rose))
      | inr none ↦ absurd (cc (there.1.is_told, none))
    ]
accepted_built rules folder fb fa bb ba ma job texts told laws given accepted (too_large k file kth at) calm =
    let there = text_at folder (map (wanted_file job) rules.files) texts k at.file given at.kth in
    absurd (no_large folder at.file there.0 there.1 at.large)

accepted_job : (e : Entry) (seen : Seen) (job : Job) (texts : List (List ℕ)) (told : Told) → KeepsBuilt e → IsAcceptedBy e seen.told job texts → AnswersJob e seen job told → (Rose seen.faults_before seen.faults_after → ⊥) → EndsBy e job texts told.status
accepted_job Unbuilt seen job texts told laws accepted is calm = absurd accepted
accepted_job (Built rules) seen job texts told laws accepted is calm =
    accepted_built rules accepted.folder seen.faults_before seen.faults_after seen.begun_before seen.begun_after seen.mark_after job texts told
    laws accepted.are_texts accepted.accepted
    (subst (λ (folder : Option Folder). AnswersBuilt rules (record seen { told = folder }) job told) accepted.is_told is) calm

accepted_told : (seen : Seen) (words : List (List ℕ)) (job : Job) (texts : List (List ℕ)) (told : Told) → IsAccepted seen.told words job texts → IsAnswer seen words told → (Rose seen.faults_before seen.faults_after → ⊥) → EndsWith job texts told.status
accepted_told seen words job texts told accepted is calm =
    accepted_job (entry_of job.command) seen job texts told (keeps job.command) accepted.1
    (subst (λ (read : Option Job). AnswersRead seen read told) accepted.0 is) calm

-- the same of a call, over its files before and after
pub accepted_call : {F : Type 0} (f : Ghosts F) (before after : F) (words : List (List ℕ)) (job : Job) (texts : List (List ℕ)) (told : Told) → IsAnswer (saw f before after) words told → IsAccepted (f.told before) words job texts → (Rose (f.faults before) (f.faults after) → ⊥) → EndsWith job texts told.status
unfolding saw
accepted_call f before after words job texts told is accepted calm =
    accepted_told (saw f before after) words job texts told accepted is calm
