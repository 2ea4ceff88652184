use Rattle.std.proofs.Common.{ℕ, List, Contains, refl, sym, ap, ◌∙◌, subst, arith}
use Rattle.rules_files.specs.commands.Commands.{Command, command_of}
use Rattle.mich_replay.specs.Coming.{Comes}
use Rattle.mich_replay.specs.Output.{output}
use Rattle.mich_replay.specs.Pace.{PacesBehind, WritesAsItReads}
use Rattle.mich_replay.specs.Taken.{TakesBoth, TakesFile}
use Rattle.mich_replay.specs.View.{status_in, verb_seen}
use Rattle.mich_replay.proofs.Pace.{names_file, not_on_file, not_resuming, same_path, same_paths, same_verb}
use Rattle.mich_replay.proofs.Words.{only_path, only_paths}
use Rattle.mich_replay.proofs.top.answer_words.Goals as goal

pub answer_on_file-requires : goal.answer_on_file-requires
answer_on_file-requires g c =
    let path = c.in-OnFile.path.now in
    let only = only_path _ path c.args.words.now (c.in-OnFile.ensures.seen ∙ ap command_of c.as_slice.ensures) in
    subst (λ (lent : List (List ℕ)). Contains lent path) (sym (c.requires ∙ only)) (0, omega arith, refl)

pub resume-requires-clause-snapshot : goal.resume-requires-clause-snapshot
resume-requires-clause-snapshot g c =
    let snapshot = c.in-Resume.snapshot.now in
    let only = only_paths snapshot c.in-Resume.path.now c.args.words.now (c.in-Resume.ensures.seen ∙ ap command_of c.as_slice.ensures) in
    subst (λ (lent : List (List ℕ)). Contains lent snapshot) (sym (c.requires ∙ only)) (0, omega arith, refl)

pub resume-requires-clause-path : goal.resume-requires-clause-path
resume-requires-clause-path g c =
    let path = c.in-Resume.path.now in
    let only = only_paths c.in-Resume.snapshot.now path c.args.words.now (c.in-Resume.ensures.seen ∙ ap command_of c.as_slice.ensures) in
    subst (λ (lent : List (List ℕ)). Contains lent path) (sym (c.requires ∙ only)) (1, omega arith, refl)

-- ---- the answer

pub returns-in-OnFile-clause-comes : goal.returns-in-OnFile-clause-comes
returns-in-OnFile-clause-comes g c =
    subst (λ (x : Command). Comes x (g.F.Files.content c.args.files.now) (output (g.K.Sink.written c.args.out.now) (g.K.Sink.handed c.args.out.now)) (output (g.K.Sink.written c.answer_on_file.new.out) (g.K.Sink.handed c.answer_on_file.new.out)) c.answer_on_file.result)
    (c.in-OnFile.ensures.seen ∙ ap command_of c.as_slice.ensures) c.answer_on_file.ensures.comes

pub returns-in-Resume-clause-comes : goal.returns-in-Resume-clause-comes
returns-in-Resume-clause-comes g c =
    subst (λ (x : Command). Comes x (g.F.Files.content c.args.files.now) (output (g.K.Sink.written c.args.out.now) (g.K.Sink.handed c.args.out.now)) (output (g.K.Sink.written c.resume.new.out) (g.K.Sink.handed c.resume.new.out)) c.resume.result)
    (c.in-Resume.ensures.seen ∙ ap command_of c.as_slice.ensures) c.resume.ensures.comes

pub returns-in-Generate-clause-comes : goal.returns-in-Generate-clause-comes
returns-in-Generate-clause-comes g c =
    subst (λ (x : Command). Comes x (g.F.Files.content c.args.files.now) (output (g.K.Sink.written c.args.out.now) (g.K.Sink.handed c.args.out.now)) (output (g.K.Sink.written c.generate.new.out) (g.K.Sink.handed c.generate.new.out)) c.generate.result)
    (c.in-Generate.ensures.seen ∙ ap command_of c.as_slice.ensures) (c.generate.ensures.comes (g.F.Files.content c.args.files.now))

pub returns-in-NoCommand-clause-comes : goal.returns-in-NoCommand-clause-comes
returns-in-NoCommand-clause-comes g c =
    subst (λ (x : Command). Comes x (g.F.Files.content c.args.files.now) (output (g.K.Sink.written c.args.out.now) (g.K.Sink.handed c.args.out.now)) (output (g.K.Sink.written c.usage.new.out) (g.K.Sink.handed c.usage.new.out)) c.usage.result)
    (c.in-NoCommand.ensures.seen ∙ ap command_of c.as_slice.ensures) (c.usage.ensures.comes (g.F.Files.content c.args.files.now))

-- ---- what was written keeps step

pub returns-in-OnFile-clause-pace : goal.returns-in-OnFile-clause-pace
returns-in-OnFile-clause-pace g c = λ path e.
    let same = same_verb (verb_seen c.in-OnFile.verb) c.in-OnFile.path.now path (command_of c.args.words.now) (c.in-OnFile.ensures.seen ∙ ap command_of c.as_slice.ensures) e in
    subst (λ (p : List ℕ). WritesAsItReads (g.F.Files.content c.args.files.now p) (g.F.Files.left c.args.files.now) (g.F.Files.left c.answer_on_file.new.files) (g.K.Sink.written c.args.out.now)
    (g.K.Sink.written c.answer_on_file.new.out) (status_in c.answer_on_file.result)) same.1 (c.answer_on_file.ensures.pace same.0)

pub returns-in-Resume-clause-resumed : goal.returns-in-Resume-clause-resumed
returns-in-Resume-clause-resumed g c = λ snapshot path e.
    let same = same_paths c.in-Resume.snapshot.now snapshot c.in-Resume.path.now path (command_of c.args.words.now) (c.in-Resume.ensures.seen ∙ ap command_of c.as_slice.ensures) e in
    let content = g.F.Files.content c.args.files.now in
    let left = g.F.Files.left c.resume.new.files in
    let before = g.K.Sink.written c.args.out.now in
    let now = g.K.Sink.written c.resume.new.out in
    subst (λ (p : List ℕ). PacesBehind (content snapshot) (content p) left before now (status_in c.resume.result)) same.1
    (subst (λ (s : List ℕ). PacesBehind (content s) (content c.in-Resume.path.now) left before now (status_in c.resume.result)) same.0 c.resume.ensures.pace)

-- ---- what was taken

pub returns-in-OnFile-clause-taken : goal.returns-in-OnFile-clause-taken
returns-in-OnFile-clause-taken g c = λ verb path e.
    let same = same_path (verb_seen c.in-OnFile.verb) verb c.in-OnFile.path.now path (command_of c.args.words.now) (c.in-OnFile.ensures.seen ∙ ap command_of c.as_slice.ensures) e in
    subst (λ (p : List ℕ). TakesFile (g.F.Files.content c.args.files.now p) (g.F.Files.left c.args.files.now) (g.F.Files.left c.answer_on_file.new.files) (g.K.Sink.written c.args.out.now)
    (g.K.Sink.written c.answer_on_file.new.out) (status_in c.answer_on_file.result)) same c.answer_on_file.ensures.taken

pub returns-in-Resume-clause-both : goal.returns-in-Resume-clause-both
returns-in-Resume-clause-both g c = λ snapshot path e.
    let same = same_paths c.in-Resume.snapshot.now snapshot c.in-Resume.path.now path (command_of c.args.words.now) (c.in-Resume.ensures.seen ∙ ap command_of c.as_slice.ensures) e in
    let content = g.F.Files.content c.args.files.now in
    let first = g.F.Files.left c.args.files.now in
    let left = g.F.Files.left c.resume.new.files in
    let before = g.K.Sink.written c.args.out.now in
    let now = g.K.Sink.written c.resume.new.out in
    subst (λ (p : List ℕ). TakesBoth (content snapshot) (content p) first left before now (status_in c.resume.result)) same.1
    (subst (λ (s : List ℕ). TakesBoth (content s) (content c.in-Resume.path.now) first left before now (status_in c.resume.result)) same.0 c.resume.ensures.taken)

-- ---- words that ask for something else

pub returns-in-Resume-clause-pace : goal.returns-in-Resume-clause-pace
returns-in-Resume-clause-pace g c = λ path e. absurd (not_on_file _ (command_of c.args.words.now) _ path refl (c.in-Resume.ensures.seen ∙ ap command_of c.as_slice.ensures) e)

pub returns-in-Resume-clause-taken : goal.returns-in-Resume-clause-taken
returns-in-Resume-clause-taken g c = λ verb path e. absurd (not_on_file _ (command_of c.args.words.now) verb path refl (c.in-Resume.ensures.seen ∙ ap command_of c.as_slice.ensures) e)

pub returns-in-Generate-clause-pace : goal.returns-in-Generate-clause-pace
returns-in-Generate-clause-pace g c = λ path e. absurd (not_on_file _ (command_of c.args.words.now) _ path refl (c.in-Generate.ensures.seen ∙ ap command_of c.as_slice.ensures) e)

pub returns-in-Generate-clause-taken : goal.returns-in-Generate-clause-taken
returns-in-Generate-clause-taken g c = λ verb path e. absurd (not_on_file _ (command_of c.args.words.now) verb path refl (c.in-Generate.ensures.seen ∙ ap command_of c.as_slice.ensures) e)

pub returns-in-NoCommand-clause-pace : goal.returns-in-NoCommand-clause-pace
returns-in-NoCommand-clause-pace g c = λ path e. absurd (not_on_file _ (command_of c.args.words.now) _ path refl (c.in-NoCommand.ensures.seen ∙ ap command_of c.as_slice.ensures) e)

pub returns-in-NoCommand-clause-taken : goal.returns-in-NoCommand-clause-taken
returns-in-NoCommand-clause-taken g c = λ verb path e. absurd (not_on_file _ (command_of c.args.words.now) verb path refl (c.in-NoCommand.ensures.seen ∙ ap command_of c.as_slice.ensures) e)

pub returns-in-OnFile-clause-resumed : goal.returns-in-OnFile-clause-resumed
returns-in-OnFile-clause-resumed g c = λ snapshot path e. absurd (not_resuming _ (command_of c.args.words.now) snapshot path refl (c.in-OnFile.ensures.seen ∙ ap command_of c.as_slice.ensures) e)

pub returns-in-OnFile-clause-both : goal.returns-in-OnFile-clause-both
returns-in-OnFile-clause-both g c = λ snapshot path e. absurd (not_resuming _ (command_of c.args.words.now) snapshot path refl (c.in-OnFile.ensures.seen ∙ ap command_of c.as_slice.ensures) e)

pub returns-in-Generate-clause-resumed : goal.returns-in-Generate-clause-resumed
returns-in-Generate-clause-resumed g c = λ snapshot path e. absurd (not_resuming _ (command_of c.args.words.now) snapshot path refl (c.in-Generate.ensures.seen ∙ ap command_of c.as_slice.ensures) e)

pub returns-in-Generate-clause-both : goal.returns-in-Generate-clause-both
returns-in-Generate-clause-both g c = λ snapshot path e. absurd (not_resuming _ (command_of c.args.words.now) snapshot path refl (c.in-Generate.ensures.seen ∙ ap command_of c.as_slice.ensures) e)

pub returns-in-NoCommand-clause-resumed : goal.returns-in-NoCommand-clause-resumed
returns-in-NoCommand-clause-resumed g c = λ snapshot path e. absurd (not_resuming _ (command_of c.args.words.now) snapshot path refl (c.in-NoCommand.ensures.seen ∙ ap command_of c.as_slice.ensures) e)

pub returns-in-NoCommand-clause-both : goal.returns-in-NoCommand-clause-both
returns-in-NoCommand-clause-both g c = λ snapshot path e. absurd (not_resuming _ (command_of c.args.words.now) snapshot path refl (c.in-NoCommand.ensures.seen ∙ ap command_of c.as_slice.ensures) e)

pub returns-in-OnFile-clause-untouched : goal.returns-in-OnFile-clause-untouched
returns-in-OnFile-clause-untouched g c = λ none. absurd (names_file _ (command_of c.args.words.now) c.in-OnFile.path.now refl (c.in-OnFile.ensures.seen ∙ ap command_of c.as_slice.ensures) none)

pub returns-in-Resume-clause-untouched : goal.returns-in-Resume-clause-untouched
returns-in-Resume-clause-untouched g c = λ none. absurd (names_file _ (command_of c.args.words.now) c.in-Resume.path.now refl (c.in-Resume.ensures.seen ∙ ap command_of c.as_slice.ensures) none)
