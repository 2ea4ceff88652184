-- Marks stay good.
use Rattle.std.proofs.Common.{◌≡◌, ◌≤◌, ℕ, ℤ, refl, sym, ap, ◌∙◌, arith, subst}
use Rattle.mich_base.specs.undo.History.{History, height_of, rewound, Keeps}
use Rattle.mich_base.proofs.undo_lemmas.ForCallers.{keeps_same, keeps_trans, keeps_equal, rewound_twice}
use Rattle.mich_tickets.specs.Books.{State}
use Rattle.mich_bigmap.specs.Stored.{Stored}
use Rattle.mich_world.specs.Holders.{Holders, total}
use Rattle.mich_world.specs.World.{World, with_clock, with_funds, with_ledger, with_store}
use Rattle.mich_world.specs.Marks.{mark_of, at_mark, IsGood, KeepsWorld, IsSame}
use Rattle.mich_world.specs.declared.mark.Mark.{Mark}

pub world_same : (w : World) → KeepsWorld w w
world_same w = record { chain = refl; funds = keeps_same w.funds; books = keeps_same w.ledger.books; bases = keeps_same w.store.bases }

pub world_trans : (u v w : World) → KeepsWorld u v → KeepsWorld v w → KeepsWorld u w
world_trans u v w p q = record {
  chain = q.chain ∙ p.chain;
  funds = keeps_trans _ _ _ p.funds q.funds;
  books = keeps_trans _ _ _ p.books q.books;
  bases = keeps_trans _ _ _ p.bases q.bases;
}

-- funds that were written, and all else the same
pub world_funds : (v w : World) → w ≡ with_funds v w.funds → Keeps v.funds w.funds → KeepsWorld v w
world_funds v w e k = subst (λ u. KeepsWorld v u) (sym e) (record { chain = refl; funds = k; books = keeps_same v.ledger.books; bases = keeps_same v.store.bases })

-- a ledger or store that was lent, and was changed by its own calls alone
pub ledger_lent : (w : World) (r l : State) → r ≡ w.ledger → Keeps r.books l.books → KeepsWorld w (with_ledger w l)
ledger_lent w r l e k =
    record { chain = refl; funds = keeps_same w.funds; books = subst (λ (s : State). Keeps s.books l.books) e k; bases = keeps_same w.store.bases }

pub store_lent : (w : World) (r s : Stored) → r ≡ w.store → Keeps r.bases s.bases → KeepsWorld w (with_store w s)
store_lent w r s e k =
    record { chain = refl; funds = keeps_same w.funds; books = keeps_same w.ledger.books; bases = subst (λ (x : Stored). Keeps x.bases s.bases) e k }

-- the mark of a world is good later
pub mark_good : (v w : World) → KeepsWorld v w → IsGood (mark_of v) w
mark_good v w k = record { funds = k.funds.grows; ledger = k.books.grows; store = k.bases.grows }

-- and the world at it is that world
pub mark_is : (v w : World) → KeepsWorld v w → IsSame v (at_mark w (mark_of v))
mark_is v w k = record { chain = k.chain; level = refl; moment = refl; funds = k.funds.same; books = k.books.same; bases = k.bases.same }

back_same : {S : Type 0} (old new : History S) (k : ℕ) → Keeps old new → k ≤ height_of old → rewound new k ≡ rewound old k
back_same old new k p le = sym (rewound_twice new.present new.past (height_of old) k le) ∙ ap (λ h. rewound h k) p.same

-- each good mark stays good, and the world at it stays the same
pub good_stays : (m : Mark) (v w : World) → IsGood m v → KeepsWorld v w → IsGood m w
good_stays m v w g k =
    let a = k.funds.grows in let b = k.books.grows in let c = k.bases.grows in
    record { funds = omega (arith, g.funds, a); ledger = omega (arith, g.ledger, b); store = omega (arith, g.store, c) }

pub at_stays : (m : Mark) (v w : World) → IsGood m v → KeepsWorld v w → IsSame (at_mark v m) (at_mark w m)
at_stays m v w g k = record {
  chain = k.chain;
  level = refl;
  moment = refl;
  funds = back_same v.funds w.funds m.funds k.funds g.funds;
  books = back_same v.ledger.books w.ledger.books m.ledger k.books g.ledger;
  bases = back_same v.store.bases w.store.bases m.store k.bases g.store;
}

-- ---- worlds that are one

pub same_keeps : (v w : World) → IsSame v w → KeepsWorld v w
same_keeps v w s = record { chain = s.chain; funds = keeps_equal _ _ s.funds; books = keeps_equal _ _ s.books; bases = keeps_equal _ _ s.bases }

pub same_total : (v w : World) → IsSame v w → total w.funds.present ≡ total v.funds.present
same_total v w s = ap (λ (h : History Holders). total h.present) s.funds

same_trans : (u v w : World) → IsSame u v → IsSame v w → IsSame u w
same_trans u v w p q = record {
  chain = q.chain ∙ p.chain;
  level = q.level ∙ p.level;
  moment = q.moment ∙ p.moment;
  funds = q.funds ∙ p.funds;
  books = q.books ∙ p.books;
  bases = q.bases ∙ p.bases;
}

-- a world that was marked, written and taken back
pub undone_is : (m : Mark) (v w z : World) → m ≡ mark_of v → KeepsWorld v w → IsSame (at_mark w m) z → IsSame v z
undone_is m v w z e k s = same_trans v (at_mark w (mark_of v)) z (mark_is v w k) (subst (λ (x : Mark). IsSame (at_mark w x) z) e s)

pub undone_good : (m : Mark) (v w : World) → m ≡ mark_of v → KeepsWorld v w → IsGood m w
undone_good m v w e k = subst (λ (x : Mark). IsGood x w) (sym e) (mark_good v w k)

-- parts that were written
pub keeps_parts : (v w : World) → w.chain ≡ v.chain → Keeps v.funds w.funds → Keeps v.ledger.books w.ledger.books → Keeps v.store.bases w.store.bases → KeepsWorld v w
keeps_parts v w c f b s = record { chain = c; funds = f; books = b; bases = s }

pub world_clock : (w : World) (level : ℕ) (moment : ℤ) → KeepsWorld w (with_clock w level moment)
world_clock w level moment = record { chain = refl; funds = keeps_same w.funds; books = keeps_same w.ledger.books; bases = keeps_same w.store.bases }
