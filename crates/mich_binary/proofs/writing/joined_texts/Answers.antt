use Rattle.std.proofs.Common.{◌≡◌, List, ℕ, ◌++◌, ap, sym, ◌∙◌}
use Rattle.rules_text.specs.binary.Spelling.{joined}
use Rattle.mich_binary.proofs.Writings.{spaced, joined_is}
use Rattle.mich_binary.proofs.writing.joined_texts.Goals as goal

pub loop-text-init : goal.loop-text-init
loop-text-init c =
    let first = c.in-Some.first.now in
    let rest = c.in-Some.rest.now in
    let written : c.extend_from_slice.new.self.items ≡ first = c.in_ok-extend_from_slice.ensures.items ∙ ap (λ (r : List ℕ). r ++ c.as_slice.result.now) c.new-out.ensures.items ∙ c.as_slice.ensures in
    ap (λ (r : List ℕ). r ++ spaced rest) written ∙ sym (joined_is first rest) ∙ ap joined (sym c.in-Some.ensures.cases.0)
