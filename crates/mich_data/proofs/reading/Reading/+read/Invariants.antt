use Rattle.std.proofs.Common.{◌≡◌, ◌+◌, ◌*◌, max, drop, map}
use Rattle.mich_base.specs.declared.ty.Ty.{size-Ty}
use Rattle.mich_base.specs.View.{trees}
use Rattle.mich_base.specs.TypeView.{kind}
use Rattle.mich_term.specs.ValueView.{val}
use Rattle.rules_text.specs.nodes.Tree.{sizes}
use Rattle.rules_data.specs.values.Literals.{with_pending, mapped, read, read_elements, read_increasing, read_entries}
use Rattle.mich_data.specs.View.{all_pending}
use Rattle.mich_data.proofs.Lists.{put_before}
use Rattle.mich_data.proofs.Sets.{IsReadUpTo}
use Rattle.mich_data.proofs.Tables.{AreReadUpTo}
use Rattle.std.specs.Prelude.{None}
use Rattle.std.specs.List.{AllByRecursion}
use Rattle.mich_data.specs.Whole.{IsWhole, AreWholeEntries}
use Rattle.mich_data.proofs.reading.Reading.+read.Given as goal

abbrev pub decreases-read : goal.decreases-read
decreases-read l = 6 * size-Ty l.ty.now

abbrev pub decreases-read_option : goal.decreases-read_option
decreases-read_option l = 6 * size-Ty l.part.now + 2

abbrev pub decreases-read_or : goal.decreases-read_or
decreases-read_or l = 6 * max (size-Ty l.left.now) (size-Ty l.right.now) + 2

abbrev pub decreases-read_argument : goal.decreases-read_argument
decreases-read_argument l = 6 * size-Ty l.ty.now + 1

abbrev pub decreases-read_pair : goal.decreases-read_pair
decreases-read_pair l = 6 * max (size-Ty l.first.now) (size-Ty l.second.now) + 2

abbrev pub decreases-read_parts : goal.decreases-read_parts
decreases-read_parts l = 6 * max (size-Ty l.first.now) (size-Ty l.second.now) + 1

abbrev pub decreases-read_rest : goal.decreases-read_rest
decreases-read_rest l = 6 * size-Ty l.ty.now

abbrev pub decreases-read_list : goal.decreases-read_list
decreases-read_list l = 6 * size-Ty l.part.now + 2

abbrev pub decreases-read_elements : goal.decreases-read_elements
decreases-read_elements l = 6 * size-Ty l.part.now + 1

abbrev pub decreases-read_set : goal.decreases-read_set
decreases-read_set l = 6 * size-Ty l.part.now + 2

abbrev pub decreases-read_increasing : goal.decreases-read_increasing
decreases-read_increasing l = 6 * size-Ty l.part.now + 1

abbrev pub decreases-read_map : goal.decreases-read_map
decreases-read_map l = 6 * max (size-Ty l.key.now) (size-Ty l.value.now) + 5

abbrev pub decreases-read_big_map : goal.decreases-read_big_map
decreases-read_big_map l = 6 * max (size-Ty l.key.now) (size-Ty l.value.now) + 5

abbrev pub decreases-read_small : goal.decreases-read_small
decreases-read_small l = 6 * max (size-Ty l.key.now) (size-Ty l.value.now) + 4

abbrev pub decreases-read_big : goal.decreases-read_big
decreases-read_big l = 6 * max (size-Ty l.key.now) (size-Ty l.value.now) + 4

abbrev pub decreases-read_entries : goal.decreases-read_entries
decreases-read_entries l = 6 * max (size-Ty l.key.now) (size-Ty l.value.now) + 3

abbrev pub decreases-read_entry : goal.decreases-read_entry
decreases-read_entry l = 6 * max (size-Ty l.key.now) (size-Ty l.value.now) + 2

abbrev pub decreases-read_binding : goal.decreases-read_binding
decreases-read_binding l = 6 * max (size-Ty l.key.now) (size-Ty l.value.now) + 1

abbrev pub invariant-read_elements-loop-node : goal.invariant-read_elements-loop-node
invariant-read_elements-loop-node l =
    let left = trees (drop l.node-index l.node-items) in
    (with_pending (all_pending l.initial.self.pending) (read_elements (read (kind l.part)) l.initial.self.next (trees l.nodes))
    ≡ mapped (put_before (map val l.values)) (with_pending (all_pending l.self.pending) (read_elements (read (kind l.part)) l.self.next left)))
    × (l.self.next + sizes left ≡ l.initial.self.next + sizes (trees l.nodes))
    × AllByRecursion (IsWhole (kind l.part)) l.values

abbrev pub invariant-read_increasing-loop-node : goal.invariant-read_increasing-loop-node
invariant-read_increasing-loop-node l =
    let left = trees (drop l.node-index l.node-items) in
    IsReadUpTo (with_pending (all_pending l.initial.self.pending) (read_increasing (read (kind l.part)) None l.initial.self.next (trees l.nodes)))
    (read (kind l.part)) l.elements l.self.next left (all_pending l.self.pending)
    × (l.self.next + sizes left ≡ l.initial.self.next + sizes (trees l.nodes))

abbrev pub invariant-read_entries-loop-node : goal.invariant-read_entries-loop-node
invariant-read_entries-loop-node l =
    let left = trees (drop l.node-index l.node-items) in
    AreReadUpTo (with_pending (all_pending l.initial.self.pending) (read_entries (read (kind l.key)) (read (kind l.value)) None l.initial.self.next (trees l.nodes)))
    (read (kind l.key)) (read (kind l.value)) l.entries l.self.next left (all_pending l.self.pending)
    × (l.self.next + sizes left ≡ l.initial.self.next + sizes (trees l.nodes))
    × AreWholeEntries (kind l.value) l.entries
