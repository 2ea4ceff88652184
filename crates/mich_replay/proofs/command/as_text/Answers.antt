use Rattle.std.proofs.Common.{Bool, cond, Some, None, sym, ap, ◌∙◌}
use Rattle.std.specs.Str.{IsUtf8, is_utf8}
use Rattle.std.proofs.lemmas.Str.{is_utf8-from_IsUtf8, IsUtf8-from_is_utf8}
use Rattle.mich_replay.proofs.Truth.{false_of}
use Rattle.mich_replay.proofs.command.as_text.Goals as goal

pub returns-in-Ok : goal.returns-in-Ok
returns-in-Ok c =
    ap Some c.in-Ok.ensures.cases.0
    ∙ sym (ap (λ (b : Bool). cond b (Some c.args.bytes.now) None) (is_utf8-from_IsUtf8 c.args.bytes.now c.in-Ok.ensures.cases.1))

pub returns-in-Err : goal.returns-in-Err
returns-in-Err c =
    let bytes = c.args.bytes.now in
    sym (ap (λ (b : Bool). cond b (Some bytes) None) (false_of (is_utf8 bytes) (IsUtf8 bytes) (IsUtf8-from_is_utf8 bytes) c.in-Err.ensures.cases.0))
