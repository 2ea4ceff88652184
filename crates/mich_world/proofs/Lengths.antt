-- A journal has an entry for each state before the present one.
use Rattle.std.proofs.Common.{◌≡◌, List, [], ◌∷◌, length, reverse, refl, ap, ◌∙◌, suc}
use Rattle.std.proofs.lemmas.List.{length-reverse}
use Rattle.mich_base.specs.undo.History.{height_of}
use Rattle.mich_world.specs.Holders.{Holders}
use Rattle.mich_world.specs.Journal.{past_of, before, history}
use Rattle.mich_world.specs.declared.entry.Entry.{Entry}

length-past_of : (h : Holders) (es : List Entry) → length (past_of h es) ≡ length es
length-past_of h [] = refl
length-past_of h (e ∷ es) = ap suc (length-past_of (before e.change h) es)

pub height_of-history : (h : Holders) (journal : List Entry) → height_of (history h journal) ≡ length journal
height_of-history h journal = length-past_of h (reverse journal) ∙ length-reverse journal
