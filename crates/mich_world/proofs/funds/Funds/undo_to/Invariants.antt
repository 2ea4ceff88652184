use Rattle.std.proofs.Common.{◌≡◌, ◌-◌, ◌≤◌}
use Rattle.mich_base.specs.undo.History.{height_of, rewound}
use Rattle.mich_world.proofs.funds.Funds.undo_to.Given as goal

abbrev pub invariant-back : goal.invariant-back
invariant-back l = record {
  above : l.height ≤ height_of l.self;
  same : rewound l.self l.height ≡ rewound l.fn.self l.height;
}

abbrev pub decreases-back : goal.decreases-back
decreases-back l = height_of l.self - l.height
