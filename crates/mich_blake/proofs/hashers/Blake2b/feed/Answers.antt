use Rattle.std.proofs.Common.{◌≡◌, ◌+◌, ◌-◌, length, arith, sym, ap, ◌∙◌}
use Rattle.std.proofs.lemmas.List.{length-take-le}
use Rattle.mich_blake.specs.Hasher.{Hasher, fed}
use Rattle.mich_blake.proofs.Feeding.{length_kept, long_step, short_step}
use Rattle.mich_blake.proofs.hashers.Blake2b.feed.Goals as goal

pub returns-then-bytes-room : goal.returns-then-bytes-room
returns-then-bytes-room c =
    let s = c.self.inside in
    let width : s.used + length c.args.bytes.now - s.used ≡ length c.args.bytes.now = omega arith in
    short_step s.size s.hash s.taken s.used _ s.block c.args.bytes.now c.copy_from_slice.new.self (omega arith) (omega arith)
    c.copy_from_slice.ensures.after ∙ ap (λ (x : Hasher). fed x c.args.bytes.now) c.self.view_is

pub returns : goal.returns
returns c =
    let s = c.self.inside in
    long_step s.size s.hash c.compress.new.h c.take_blocks.new.hash s.taken s.used s.block c.args.bytes.now
    c.split_at.result.0.now c.split_at.result.1.now c.split_at-2.result.0.now c.split_at-2.result.1.now
    c.copy_from_slice-2.new.self c.copy_from_slice-3.new.self _ (omega arith) (omega arith) (omega arith)
    c.split_at.ensures.front c.split_at.ensures.back c.copy_from_slice-2.ensures.after c.compress.ensures
    c.split_at-2.ensures.front c.split_at-2.ensures.back c.take_blocks.ensures c.copy_from_slice-3.ensures.after
    ∙ ap (λ (x : Hasher). fed x c.args.bytes.now) c.self.view_is

pub invariant_of-self-2 : goal.invariant_of-self-2
invariant_of-self-2 c =
    let s = c.self.inside in
    let taken : c.args.self.now.taken ≡ s.taken = sym (ap (λ (x : Hasher). x.taken) c.self.view_is) in
    let pending : length c.args.self.now.pending ≡ s.used =
    sym (ap (λ (x : Hasher). length x.pending) c.self.view_is) ∙ length-take-le s.used s.block (omega arith) in (
      omega arith,
      omega arith,
      length_kept s.used (length c.split_at-2.result.1.now) s.block c.copy_from_slice-2.new.self c.copy_from_slice-3.new.self
          (omega arith) (omega arith) (ap length c.copy_from_slice-2.ensures.after ∙ c.split_at.ensures.front_len)
          (ap length c.copy_from_slice-3.ensures.after) (omega arith),
      omega arith,
    )
