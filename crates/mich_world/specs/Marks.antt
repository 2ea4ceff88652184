-- Places in the journals of a world.
use Rattle.std.specs.Prelude.{◌≡◌, ◌≤◌, []}
use Rattle.mich_base.specs.undo.History.{height_of, rewound, Keeps}
use Rattle.mich_world.specs.World.{World}
use Rattle.mich_world.specs.declared.mark.Mark.{Mark}

abbrev pub mark_of : World → Mark
mark_of w = record {
  funds = height_of w.funds;
  ledger = height_of w.ledger.books;
  store = height_of w.store.bases;
  level = w.level;
  moment = w.moment;
}

-- the world at a mark
abbrev pub at_mark : World → Mark → World
at_mark w m = record {
  chain = w.chain;
  level = m.level;
  moment = m.moment;
  funds = rewound w.funds m.funds;
  ledger = record { books = rewound w.ledger.books m.ledger; changes = [] };
  store = record { bases = rewound w.store.bases m.store; noted = w.store.noted };
}

-- the world has not been taken back past the mark
pub record IsGood (m : Mark) (w : World) : Type 0 where
  pub funds : m.funds ≤ height_of w.funds
  pub ledger : m.ledger ≤ height_of w.ledger.books
  pub store : m.store ≤ height_of w.store.bases

-- whatever the old world was at a mark, the new one was too
pub record KeepsWorld (old new : World) : Type 0 where
  pub chain : new.chain ≡ old.chain
  pub funds : Keeps old.funds new.funds
  pub books : Keeps old.ledger.books new.ledger.books
  pub bases : Keeps old.store.bases new.store.bases

-- two worlds are one, the list of changes and the notes of bases aside
pub record IsSame (v w : World) : Type 0 where
  pub chain : w.chain ≡ v.chain
  pub level : w.level ≡ v.level
  pub moment : w.moment ≡ v.moment
  pub funds : w.funds ≡ v.funds
  pub books : w.ledger.books ≡ v.ledger.books
  pub bases : w.store.bases ≡ v.store.bases
