use Rattle.std.proofs.Common.{◌≡◌, drop, map}
use Rattle.rules_code.specs.typing.Scripts.{typed_views}
use Rattle.mich_outline.specs.View.{view_of, written_of}
use Rattle.mich_outline.proofs.Steps.{behind}
use Rattle.mich_outline.proofs.outline.read_views.Given as goal

abbrev pub invariant-loop-view : goal.invariant-loop-view
invariant-loop-view l = typed_views (map written_of l.fn.views) ≡ behind (map view_of l.typed) (typed_views (map written_of (drop l.view-index l.view-items)))
