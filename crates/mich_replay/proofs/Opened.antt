-- A snapshot that was loaded, and the file that goes on from it.
use Rattle.std.proofs.Common.{◌≡◌, ◌⊎◌, ◌<◌, ℕ, Bool, true, false, ◌||◌, not, List, [], ◌∷◌, ◌++◌, length, map, codes, Option, Some, None, IsSome, Result, Ok, Err, refl, sym, ap, ◌∙◌, subst, inl, inr, append-nil, arith}
use Rattle.std.proofs.lemmas.Bool.Decides.{nat_tests}
use Rattle.std.proofs.lemmas.List.{length-append}
use Rattle.std.specs.List.{AllByRecursion}
use Rattle.std.specs.Prelude.{nat_lt}
use Rattle.rules_text.specs.nodes.Limits.{file_limit}
use Rattle.rules_files.specs.commands.Answers.{Answer, refused_with}
use Rattle.rules_files.specs.commands.Commands.{Resuming, AreTold, IsAnswer, IsTold, IsToldBehind}
use Rattle.rules_files.specs.commands.Lines.{refusal_line}
use Rattle.rules_files.specs.commands.Resuming.{Resumes, load_answer, resumed_answer}
use Rattle.rules_files.specs.course.Course.{Course as PlainCourse}
use Rattle.rules_files.specs.snapshots.Course.{course_of, world_of}
use Rattle.rules_files.specs.snapshots.Loading.{LoadFault, BadForm, Unsound, loaded}
use Rattle.rules_files.specs.snapshots.Reading.{read, snapshot_limit}
use Rattle.rules_files.specs.snapshots.Rules.{is_sound}
use Rattle.rules_files.specs.snapshots.Spelt.{IsSpelt}
use Rattle.rules_files.specs.snapshots.State.{State}
use Rattle.laws_data.specs.binary.Laws.{IsBytes}
use Rattle.laws_files.proofs.snapshots_lemmas.Loads.{loaded_are_sound}
use Rattle.mich_bigmap.specs.Ticketless.{HoldNoTickets}
use Rattle.mich_gas.specs.View.{listed}
use Rattle.mich_group.specs.course.Following.{Follows}
use Rattle.mich_group.specs.declared.course.course.Course.{Course}
use Rattle.mich_instr.specs.Scripts.{IsTypedScript}
use Rattle.mich_machine.specs.Calls.{IsHosting}
use Rattle.mich_saved.specs.declared.errors.LoadError.TheVariants as errors
use Rattle.mich_snapshot.specs.Loaded.{IsLoaded, IsLoadedAs}
use Rattle.mich_snapshot.specs.declared.state.State.{State as Kept}
use Rattle.mich_text.proofs.ForCallers.{split}
use Rattle.mich_world.specs.Standing.{StandsFor, purse}
use Rattle.mich_world.specs.Storages.{AreStored}
use Rattle.mich_replay.specs.Coming.{Comes, EndsAs}
use Rattle.mich_replay.specs.Fronts.{IsReadOf, IsRest}
use Rattle.mich_replay.specs.Opening.{GoesOnAs, IsOpened, IsOpenedFrom, PacesAs, ResumesAs}
use Rattle.mich_replay.specs.Output.{Output, RefusesWith, WritesFront}
use Rattle.mich_replay.specs.Pace.{PacesBehind, TakesInStep, WritesBehind}
use Rattle.mich_replay.specs.Taken.{HasTaken, TakesBoth, TakesFile}
use Rattle.mich_replay.specs.View.{status_in}
use Rattle.mich_replay.specs.declared.resuming.Loaded.{Loaded}
use Rattle.mich_replay.specs.declared.resuming.Loaded.TheVariants as opened
use Rattle.mich_io.specs.declared.stop.Stop.{Stop}
use Rattle.mich_io.specs.declared.stop.Stop.TheVariants as stop
use Rattle.mich_replay.proofs.Replayed.{comes_behind, ending_own, resumed_of}
use Rattle.mich_replay.proofs.SoundCourses.{groups_few, nobody_there, sound_course}
use Rattle.mich_replay.proofs.Taken.{step_taken}

-- ---- what was loaded

pub loaded_ok : (found : Result State LoadFault) (s : Kept) → IsLoaded found (Ok s) → (p : State) × (found ≡ Ok p) × IsLoadedAs p s
loaded_ok (Ok p) s h = (p, refl, h)
loaded_ok (Err (BadForm place)) s h = absurd h
loaded_ok (Err (Unsound place)) s h = absurd h

pub loaded_bad : (found : Result State LoadFault) (at : ℕ) → IsLoaded found (Err (errors.BadForm at)) → IsOpened found (opened.BadForm at)
loaded_bad (Ok p) at h = absurd h
loaded_bad (Err (BadForm place)) at h = h
loaded_bad (Err (Unsound place)) at h = absurd h

pub loaded_unsound : (found : Result State LoadFault) (at : ℕ) → IsLoaded found (Err (errors.Unsound at)) → IsOpened found (opened.Unsound at)
loaded_unsound (Ok p) at h = absurd h
loaded_unsound (Err (BadForm place)) at h = absurd h
loaded_unsound (Err (Unsound place)) at h = h

-- the contracts of a world, of which there are none
none_mapped : {A B : Type 0} (f : A → B) (xs : List A) → [] ≡ map f xs → xs ≡ []
none_mapped f [] e = refl
none_mapped f (x ∷ xs) e = absurd cc

-- the course of a state that was loaded follows that of the rules
follows : (p : State) (s : Kept) (c : Course) → IsSpelt p → is_sound p ≡ true → IsLoadedAs p s → IsHosting s.world → c.world ≡ s.world → c.costs ≡ s.costs → c.groups ≡ s.groups
    → c.at_head ≡ not (s.costs_stood || s.started) → Follows c (course_of p)
follows p s c spelt sound h hosting world costs groups head =
    let good = sound_course p spelt sound h.good in
    let at_head : c.at_head ≡ (course_of p).at_head = head ∙ ap (λ b. not (b || s.started)) h.costs_stood ∙ ap (λ b. not (p.costs_stood || b)) h.started in
    let stands : StandsFor c.world (world_of p) = subst (λ v. StandsFor v (world_of p)) (sym world) h.stands in
    record {
      stands = stands;
      prices = ap listed costs ∙ h.prices;
      groups = groups ∙ h.groups;
      at_head = at_head;
      nobody = λ e.
          let none = nobody_there p sound (sym at_head ∙ e) in (
            sym stands.those.accounts ∙ ap (map purse) none.0,
            none_mapped _ c.world.funds.present.contracts (sym none.1 ∙ stands.those.contracts),
          );
      hosting = subst IsHosting (sym world) hosting;
      whole = good.whole;
      charged = good.charged;
      new = good.new;
    }

pub opens : (bytes : List ℕ) (s : Kept) (c : Course) → IsBytes bytes → IsLoaded (loaded bytes) (Ok s) → AreStored s.world → HoldNoTickets s.world.store.bases.present
    → AllByRecursion (λ x. IsTypedScript x.1.script) s.world.funds.present.contracts → c.world ≡ s.world → c.costs ≡ s.costs → c.groups ≡ s.groups
    → c.at_head ≡ not (s.costs_stood || s.started) → IsOpened (loaded bytes) (opened.Course c)
opens bytes s c are_bytes h stored ticketless typed world costs groups head =
    let l = loaded_ok (loaded bytes) s h in
    let sound = loaded_are_sound bytes l.0 are_bytes l.1 in
    let f = follows l.0 s c sound.1 sound.2 l.2 (record { typed = typed; stored = stored; ticketless = ticketless }) world costs groups head in
    subst (λ (x : Result State LoadFault). IsOpened x (opened.Course c)) (sym l.1) (f, groups_few l.0 sound.2)

-- ---- a file that isn't read to its end

long : (bs : List ℕ) → snapshot_limit < length bs → loaded bs ≡ Err (BadForm snapshot_limit)
unfolding read
long bs h = by (nat_lt snapshot_limit (length bs)) refl where
  by : (b : Bool) → nat_lt snapshot_limit (length bs) ≡ b → loaded bs ≡ Err (BadForm snapshot_limit)
  by true e = rw e refl
  by false e = absurd (grind (arith, nat_tests, e, h))

rest_loaded : (bytes more : List ℕ) → IsRest bytes more → loaded (bytes ++ more) ≡ loaded bytes
rest_loaded bytes more rest = elim (split (length bytes) file_limit) [
  | inl short ↦ ap loaded (ap (λ (l : List ℕ). bytes ++ l) (rest short) ∙ append-nil bytes)
  | inr past ↦
      let size = length-append bytes more in
      long (bytes ++ more) (omega (arith, past, size)) ∙ sym (long bytes (omega (arith, past)))
]

pub opened_from : (content : Option (List ℕ)) (bytes : List ℕ) (l : Loaded) → IsReadOf content bytes → IsOpened (loaded bytes) l → IsOpenedFrom content l
opened_from content bytes l front h = (loaded bytes, h, λ file e. by content e front)
  where
    by : {file : List ℕ} (o : Option (List ℕ)) → o ≡ Some file → IsReadOf o bytes → loaded file ≡ loaded bytes
    by {file} None e f = absurd cc
    by {file} (Some other) e (more, is, rest) =
        let same : other ≡ file = cc in
        ap loaded (sym same ∙ is) ∙ rest_loaded bytes more rest

pub opens_course : (found : Result State LoadFault) (c : Course) → IsOpened found (opened.Course c) → (p : PlainCourse) × GoesOnAs c p
opens_course (Ok s) c h = (course_of s, h)
opens_course (Err (BadForm place)) c h = absurd h
opens_course (Err (Unsound place)) c h = absurd h

-- ---- the answer

module _ (content : List ℕ → Option (List ℕ)) (snapshot path : List ℕ) (a b : Output) where
  told_course : (found : Result State LoadFault) → ((bytes : List ℕ) → content snapshot ≡ Some bytes → loaded bytes ≡ found) → (answer : Answer) →
      ((bytes : List ℕ) → content snapshot ≡ Some bytes → IsToldBehind found (content path) → Resumes found (content path) answer) →
      IsTold (Resuming snapshot path) content → IsAnswer (Resuming snapshot path) content answer
  told_course found exact answer h t = by (content snapshot) refl t where
    by : (o : Option (List ℕ)) → content snapshot ≡ o → AreTold o (content path) → IsAnswer (Resuming snapshot path) content answer
    by None e t = absurd t
    by (Some bytes) e t =
        let is = exact bytes e in (
          bytes,
          e,
          subst (λ (x : Result State LoadFault). Resumes x (content path) answer) (sym is)
              (h bytes e (subst (λ (x : Result State LoadFault). IsToldBehind x (content path)) is t)),
        )

  module _ (found : Result State LoadFault) (exact : (bytes : List ℕ) → content snapshot ≡ Some bytes → loaded bytes ≡ found) where
    -- the answer to what was loaded
    found_answer : (answer : Answer) → IsAnswer (Resuming snapshot path) content answer → Resumes found (content path) answer
    found_answer answer (bytes, e, h) = subst (λ (x : Result State LoadFault). Resumes x (content path) answer) (exact bytes e) h

  refusal_comes : (fault : LoadFault) (name : List ℕ) (place : ℕ) → load_answer fault ≡ refused_with name place → ((bytes : List ℕ) → content snapshot ≡ Some bytes → loaded bytes ≡ Err fault)
      → (r : Result ℕ Stop) → RefusesWith (refusal_line name place) a b r → Comes (Resuming snapshot path) content a b r
  refusal_comes fault name place same exact (Ok status) (is, p) =
      (refused_with name place, told_course (Err fault) exact (refused_with name place) (λ bytes e t. sym same), inr refl, is, p)
  refusal_comes fault name place same exact (Err e) p = λ answer h.
      subst (λ (x : Answer). WritesFront a b x.lines) (sym (found_answer (Err fault) exact answer h ∙ same)) p

  goes_comes : (s : State) → ((bytes : List ℕ) → content snapshot ≡ Some bytes → loaded bytes ≡ Ok s) → (r : Result ℕ Stop) → EndsAs (Some (course_of s)) (content path) a b r
      → Comes (Resuming snapshot path) content a b r
  goes_comes s exact (Ok status) (done, comes, is, p) =
      (resumed_answer s.groups done, told_course (Ok s) exact (resumed_answer s.groups done) (λ bytes e t. there (content path) refl t), ending_own done.ending, is, p)
    where
      there : (o : Option (List ℕ)) → content path ≡ o → IsSome o → Resumes (Ok s) (content path) (resumed_answer s.groups done)
      there None e t = absurd cc
      there (Some file) e t = (file, e, (done, resumed_of (course_of s) file done (comes file e), refl))
  goes_comes s exact (Err e) h = λ answer found. by answer (found_answer (Ok s) exact answer found)
    where
      by : (answer : Answer) → Resumes (Ok s) (content path) answer → WritesFront a b answer.lines
      by answer (file, is, (done, resumed, same)) =
          subst (λ (y : Answer). WritesFront a b y.lines) (sym same) (h file done is (comes_behind (course_of s) file done resumed))

  pub resumes_comes : (l : Loaded) → IsOpenedFrom (content snapshot) l → (r : Result ℕ Stop) → ResumesAs l (content path) a b r → Comes (Resuming snapshot path) content a b r
  resumes_comes (opened.Course c) (Ok s, h, exact) r p = goes_comes s exact r (p (course_of s) h)
  resumes_comes (opened.Course c) (Err (BadForm place), h, exact) r p = absurd h
  resumes_comes (opened.Course c) (Err (Unsound place), h, exact) r p = absurd h
  resumes_comes (opened.BadForm at) (Ok s, h, exact) r p = absurd h
  resumes_comes (opened.BadForm at) (Err (BadForm place), h, exact) r p =
      refusal_comes (BadForm place) (codes "BadForm") place refl exact r (subst (λ (n : ℕ). RefusesWith (refusal_line (codes "BadForm") n) a b r) h p)
  resumes_comes (opened.BadForm at) (Err (Unsound place), h, exact) r p = absurd h
  resumes_comes (opened.Unsound at) (Ok s, h, exact) r p = absurd h
  resumes_comes (opened.Unsound at) (Err (BadForm place), h, exact) r p = absurd h
  resumes_comes (opened.Unsound at) (Err (Unsound place), h, exact) r p =
      refusal_comes (Unsound place) (codes "Unsound") place refl exact r (subst (λ (n : ℕ). RefusesWith (refusal_line (codes "Unsound") n) a b r) h p)

-- ---- how much was read

no_state : (fault : LoadFault) (s : State) → Err fault ≡ Ok s → ⊥
no_state fault s e = absurd cc

same_state : (found : Result State LoadFault) (s t : State) → found ≡ Ok s → found ≡ Ok t → s ≡ t
same_state found s t e f = cc

module _ (snapshot content middle left before now : Option (List ℕ)) (status : ℕ) where
  written_behind : (from : Option PlainCourse) → WritesBehind from content middle left before now status →
      ((now ≡ before) × ((status ≡ 3) ⊎ (status ≡ 5))) ⊎ TakesInStep from content left before now status
  written_behind from (inl p) = inl (p.0, p.2)
  written_behind from (inr p) = inr p

  pub paces_behind : (l : Loaded) → IsOpenedFrom snapshot l → PacesAs l content middle left before now status → PacesBehind snapshot content left before now status
  paces_behind (opened.Course c) (Ok s, h, exact) p = λ bytes t e loads.
      let same = same_state (loaded bytes) s t (exact bytes e) loads in
      written_behind (Some (course_of t)) (subst (λ (x : State). WritesBehind (Some (course_of x)) content middle left before now status) same (p (course_of s) h))
  paces_behind (opened.Course c) (Err (BadForm place), h, exact) p = absurd h
  paces_behind (opened.Course c) (Err (Unsound place), h, exact) p = absurd h
  paces_behind (opened.BadForm at) (Ok s, h, exact) p = absurd h
  paces_behind (opened.BadForm at) (Err fault, h, exact) p = λ bytes t e loads. absurd (no_state fault t (sym (exact bytes e) ∙ loads))
  paces_behind (opened.Unsound at) (Ok s, h, exact) p = absurd h
  paces_behind (opened.Unsound at) (Err fault, h, exact) p = λ bytes t e loads. absurd (no_state fault t (sym (exact bytes e) ∙ loads))

  no_fault : (fault : LoadFault) (s : State) → Ok s ≡ Err fault → ⊥
  no_fault fault s e = absurd cc

  -- the file wasn't read
  untouched : (first : Option (List ℕ)) → HasTaken snapshot middle → left ≡ middle → TakesBoth snapshot content first left before now status
  untouched first taken same = let there = inr (subst (HasTaken snapshot) (sym same) taken) in record { takes = inl there; refused = λ bytes fault e loads. there }

  read_too : (first : Option (List ℕ)) (from : Option PlainCourse) → HasTaken snapshot middle → WritesBehind from content middle left before now status
      → TakesFile snapshot first left before now status ⊎ HasTaken content left
  read_too first from taken (inl p) = inl (inr (subst (HasTaken snapshot) (sym p.1) taken))
  read_too first from taken (inr p) = inr (step_taken from content left before now status p)

  pub takes_both : (first : Option (List ℕ)) (l : Loaded) → IsOpenedFrom snapshot l → HasTaken snapshot middle → PacesAs l content middle left before now status
      → TakesBoth snapshot content first left before now status
  takes_both first (opened.Course c) (Ok s, h, exact) taken p = record {
    takes = read_too first (Some (course_of s)) taken (p (course_of s) h);
    refused = λ bytes fault e loads. absurd (no_fault fault s (sym (exact bytes e) ∙ loads));
  }
  takes_both first (opened.Course c) (Err (BadForm place), h, exact) taken p = absurd h
  takes_both first (opened.Course c) (Err (Unsound place), h, exact) taken p = absurd h
  takes_both first (opened.BadForm at) h taken p = untouched first taken p
  takes_both first (opened.Unsound at) h taken p = untouched first taken p

-- it was given up before anything was written
pub no_text : (e : Stop) → (e ≡ stop.Write → ⊥) → (status_in (Err e) ≡ 3) ⊎ (status_in (Err e) ≡ 5)
no_text stop.Read none = inl refl
no_text stop.Write none = absurd (none refl)
no_text stop.Memory none = inr refl
