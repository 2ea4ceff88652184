use Rattle.std.proofs.Common.{◌≡◌, ℕ, List, drop, ap, ◌∙◌, arith}
use Rattle.std.specs.List.{between}
use Rattle.std.specs.Prelude.{replicate}
use Rattle.std.specs.Str.{bytes_eq}
use Rattle.std.proofs.lemmas.Slice.{between_to_end}
use Rattle.mich_snapshot.proofs.holders.ends_with_zeros.Goals as goal

pub returns : goal.returns
returns c =
    let hash = c.args.hash.now in
    let whole : between 12 20 hash ≡ drop 12 hash = between_to_end hash 12 20 (omega arith) in
    c.eq.ensures ∙ ap (λ (l : List ℕ). bytes_eq l (replicate 8 0)) whole
