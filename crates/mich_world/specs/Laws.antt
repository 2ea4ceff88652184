-- The laws of marks, and of the world of the definitions that a world stands for.
use Rattle.std.specs.Prelude.{◌≡◌, ℕ, true, List}
use Rattle.rules_data.specs.forms.Spelling.{implicit_place, is_place}
use Rattle.rules_world.specs.world.Balances as rules
use Rattle.rules_world.specs.world.Forms.{IsWorld}
use Rattle.rules_world.specs.world.World.{World as PlainWorld}
use Rattle.mich_forms.specs.Spelled.{place_bytes}
use Rattle.mich_forms.specs.declared.places.Place.{Place}
use Rattle.mich_world.specs.Holders.{total, balance_at, may_receive, moved, fee_taken}
use Rattle.mich_world.specs.Standing.{StandsFor}
use Rattle.mich_world.specs.World.{World, with_funds}
use Rattle.mich_world.specs.Marks.{mark_of, at_mark, IsGood, KeepsWorld, IsSame}
use Rattle.mich_world.specs.declared.mark.Mark.{Mark}

abbrev pub MarksStay : Type 0
MarksStay = (m : Mark) (v w : World) → IsGood m v → KeepsWorld v w → IsGood m w × IsSame (at_mark v m) (at_mark w m)

abbrev pub MarksComeBack : Type 0
MarksComeBack = (v w : World) → KeepsWorld v w → IsGood (mark_of v) w × IsSame v (at_mark w (mark_of v))

-- ---- the world of the definitions

-- mutez are those of the world that one stands for
abbrev pub SuppliesAgree : Type 0
SuppliesAgree = (v : World) (w : PlainWorld) → StandsFor v w → total v.funds.present ≡ rules.supply w

abbrev pub BalancesAgree : Type 0
BalancesAgree = (v : World) (w : PlainWorld) (p : Place) → StandsFor v w → is_place (place_bytes p) ≡ true
    → balance_at v.funds.present p ≡ rules.balance_at w (place_bytes p)

-- after a move of mutez one stands for the other world after the same move
abbrev pub MovesAgree : Type 0
MovesAgree = (u v : World) (w : PlainWorld) (from to : Place) (mutez : ℕ) → StandsFor u w → IsWorld w
    → is_place (place_bytes from) ≡ true → is_place (place_bytes to) ≡ true
    → may_receive u.funds.present from ≡ true → may_receive u.funds.present to ≡ true
    → v ≡ with_funds u v.funds → v.funds.present ≡ moved u.funds.present from to mutez
    → StandsFor v (rules.moved w (place_bytes from) (place_bytes to) mutez)

-- and the same of a fee
abbrev pub FeesAgree : Type 0
FeesAgree = (u v : World) (w : PlainWorld) (who : List ℕ) (fee : ℕ) → StandsFor u w → IsWorld w → is_place (implicit_place who) ≡ true
    → v ≡ with_funds u v.funds → v.funds.present ≡ fee_taken u.funds.present who fee
    → StandsFor v (rules.fee_taken w (implicit_place who) fee)
