use Rattle.std.proofs.Common.{◌≡◌, ◌+◌, ◌<◌, ℕ, List, Bool, true, false, cond, Some, is_none, length, drop, get_or, refl, sym, ap, ◌∙◌, arith}
use Rattle.std.specs.Option.{option_map}
use Rattle.std.specs.Str.{bytes_eq}
use Rattle.std.proofs.lemmas.List.{at_drop_more}
use Rattle.std.proofs.lemmas.Option.{slice_get_read}
use Rattle.rules_text.specs.streams.Known.{content_in}
use Rattle.mich_io.proofs.memory.place_of.Goals as goal

-- what the files from one on hold, by whether that one is of the path
step : (files : List (List ℕ × List ℕ)) (path : List ℕ) (i : ℕ) (file : List ℕ × List ℕ) (b : Bool) → i < length files → file ≡ get_or files i file → b ≡ bytes_eq path file.0
    → content_in (drop i files) path ≡ cond b (Some file.1) (content_in (drop (i + 1) files) path)
step files path i file b lt e t =
    at_drop_more (λ l. content_in l path) files i file lt
    ∙ ap (λ (f : List ℕ × List ℕ). cond (bytes_eq path f.0) (Some f.1) (content_in (drop (i + 1) files) path)) (sym e)
    ∙ ap (λ b. cond b (Some file.1) (content_in (drop (i + 1) files) path)) (sym t)

pub returns-then-eq-clause-held : goal.returns-then-eq-clause-held
returns-then-eq-clause-held c =
    let files = c.args.files.now in
    let file = c.index-files-place.result in
    let same : true ≡ bytes_eq c.args.path.now file.0 = c.if-eq.ensures ∙ ap (λ (path : List ℕ). bytes_eq path c.as_slice.result.now) c.as_bytes.ensures.value ∙ ap (bytes_eq c.args.path.now) c.as_slice.ensures in
    ap (option_map (λ (f : List ℕ × List ℕ). f.1)) (slice_get_read files _ c.files.place file refl (omega arith) c.index-files-place.is)
    ∙ sym (step files c.args.path.now c.files.place file true (omega arith) c.index-files-place.is same) ∙ c.files.invariant

pub returns-then-eq-clause-missing : goal.returns-then-eq-clause-missing
returns-then-eq-clause-missing c =
    let files = c.args.files.now in
    let file = c.index-files-place.result in
    let same : true ≡ bytes_eq c.args.path.now file.0 = c.if-eq.ensures ∙ ap (λ (path : List ℕ). bytes_eq path c.as_slice.result.now) c.as_bytes.ensures.value ∙ ap (bytes_eq c.args.path.now) c.as_slice.ensures in
    ap is_none (sym (step files c.args.path.now c.files.place file true (omega arith) c.index-files-place.is same) ∙ c.files.invariant)

pub files-preserved : goal.files-preserved
files-preserved c =
    let files = c.args.files.now in
    let file = c.index-files-place.result in
    let same : false ≡ bytes_eq c.args.path.now file.0 = c.if-eq.ensures ∙ ap (λ (path : List ℕ). bytes_eq path c.as_slice.result.now) c.as_bytes.ensures.value ∙ ap (bytes_eq c.args.path.now) c.as_slice.ensures in
    sym (step files c.args.path.now c.files.place file false (omega arith) c.index-files-place.is same) ∙ c.files.invariant
