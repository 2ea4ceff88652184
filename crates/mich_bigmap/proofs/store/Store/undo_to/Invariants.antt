use Rattle.std.proofs.Common.{◌≡◌, ◌-◌, ◌≤◌, []}
use Rattle.mich_base.specs.undo.History.{height_of, rewound}
use Rattle.mich_bigmap.proofs.store.Store.undo_to.Given as goal

abbrev pub invariant-back : goal.invariant-back
invariant-back l = record {
  above : l.height ≤ height_of l.self.bases;
  same : rewound l.self.bases l.height ≡ rewound l.fn.self.bases l.height;
  noted : l.fn.self.noted ≡ [] → l.self.noted ≡ [];
}

abbrev pub decreases-back : goal.decreases-back
decreases-back l = height_of l.self.bases - l.height
