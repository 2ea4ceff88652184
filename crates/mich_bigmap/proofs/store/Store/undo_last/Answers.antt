use Rattle.std.proofs.Common.{◌<◌, ◌≤◌, ◌-◌, List, length, take, sym, ap, ◌∙◌, subst}
use Rattle.mich_base.specs.undo.History.{stepped_back}
use Rattle.mich_bigmap.specs.Stored.{Stored, IsStore, history_of, noted_of}
use Rattle.mich_bigmap.specs.Stacked.{bases_of}
use Rattle.mich_bigmap.specs.declared.layers.Layer.{Layer}
use Rattle.mich_bigmap.proofs.Journal.{history_back, history_stays}
use Rattle.mich_bigmap.proofs.store.Store.undo_last.Goals as goal

-- what is left is all but the last layer
pub invariant_of-self : goal.invariant_of-self
invariant_of-self c =
    let s = c.self.inside in
    let same = c.as_slice-count.ensures.value in
    let left = c.truncate.ensures.items ∙ ap (λ (ls : List Layer). take (length ls - 1) s.layers.items) same in
    let back = history_back s.layers.items s.kept s.next (subst (λ (ls : List Layer). s.kept < length ls) same c.if-count-self.true) c.self.invariant in
    subst (λ (ls : List Layer). IsStore ls s.kept s.next) (sym left) back.store

pub returns-then-count-self : goal.returns-then-count-self
returns-then-count-self c =
    let s = c.self.inside in
    let same = c.as_slice-count.ensures.value in
    let left = c.truncate.ensures.items ∙ ap (λ (ls : List Layer). take (length ls - 1) s.layers.items) same in
    let back = history_back s.layers.items s.kept s.next (subst (λ (ls : List Layer). s.kept < length ls) same c.if-count-self.true) c.self.invariant in
    record {
      bases = ap (λ (ls : List Layer). history_of (bases_of ls) (length ls - s.kept)) left ∙ back.bases ∙ ap (λ (x : Stored). stepped_back x.bases.present x.bases.past) c.self.view_is;
      noted = λ h. ap noted_of left ∙ back.noted (ap (λ (x : Stored). x.noted) c.self.view_is ∙ h);
    }

pub returns-else-count-self : goal.returns-else-count-self
returns-else-count-self c =
    let s = c.self.inside in
    let same = c.as_slice-count.ensures.value in
    let stays = history_stays s.layers.items s.kept (subst (λ (ls : List Layer). length ls ≤ s.kept) same c.if-count-self.false) in
    record {
      bases = ap (λ (x : Stored). x.bases) (sym c.self.view_is) ∙ stays ∙ ap (λ (x : Stored). stepped_back x.bases.present x.bases.past) c.self.view_is;
      noted = λ h. h;
    }
