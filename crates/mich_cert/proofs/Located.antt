-- The locations of a derivation are within its script, so that its entries can be read again.
use Rattle.std.proofs.Common.{ℕ, zero, suc, ◌+◌, ◌-◌, ◌<◌, ◌≤◌, ◌^◌, List, [], ◌∷◌, ◌++◌, arith}
use Rattle.std.specs.Prelude.{slice_get}
use Rattle.rules_text.specs.nodes.Primitives.{primitive_of_name}
use Rattle.rules_text.specs.nodes.Tree.{Tree, int, str, bytes, prim, seq, Trees, none, more, size, sizes}
use Rattle.rules_data.specs.types.Kind.{Kind}
use Rattle.rules_code.specs.instructions.Context.{Context}
use Rattle.rules_code.specs.instructions.Forms.{form_of}
use Rattle.rules_code.specs.typing.Nodes.{tree_type}
use Rattle.rules_code.specs.typing.Typing.{Typing, goes, fails, bad}
use Rattle.rules_code.specs.certificates.Blocks.{Block, blocks, script_blocks}
use Rattle.rules_code.specs.certificates.Derivation.{Entry, before, end, failing, Teller, told_by, of_blocks, tree_entries, trees_entries, block_entries, tellers, inner_tellers, derivation}
use Rattle.rules_code.specs.certificates.Derivation as derivation_of
use Rattle.laws_files.specs.certificates.Laws.{EntryHasTypes, EntriesHaveTypes}
use Rattle.mich_cert.specs.Listed.{AreReadable, AreTold}

module _ (n : ℕ) where
  abbrev IsBelow : Entry → Type 0
  IsBelow (before l A) = l < n
  IsBelow (end l A) = l < n
  IsBelow (failing l) = l < n

  abbrev pub AreBelow : List Entry → Type 0
  AreBelow [] = Unit {0}
  AreBelow (e ∷ es) = IsBelow e × AreBelow es

  both_below : (es fs : List Entry) → AreBelow es → AreBelow fs → AreBelow (es ++ fs)
  both_below [] fs h g = g
  both_below (e ∷ es) fs h g = (h.0, both_below es fs h.1 g)

  abbrev TellsBelow : Teller → Type 0
  TellsBelow f = (c : Context) (A : List Kind) → AreBelow (f c A)

  abbrev TellBelow : List Teller → Type 0
  TellBelow [] = Unit {0}
  TellBelow (f ∷ fs) = TellsBelow f × TellBelow fs

  tell_both : (fs gs : List Teller) → TellBelow fs → TellBelow gs → TellBelow (fs ++ gs)
  tell_both [] gs h g = g
  tell_both (f ∷ fs) gs h g = (h.0, tell_both fs gs h.1 g)

  place_below : (fs : List Teller) → TellBelow fs → (i : ℕ) (c : Context) (A : List Kind) → AreBelow (told_by (slice_get fs i) c A)
  place_below [] h i c A = tt
  place_below (f ∷ fs) h zero c A = h.0 c A
  place_below (f ∷ fs) h (suc i) c A = place_below fs h.1 i c A

  blocks_below : (fs : List Teller) → TellBelow fs → (bs : List Block) → AreBelow (of_blocks fs bs)
  blocks_below fs h [] = tt
  blocks_below fs h (b ∷ bs) =
      both_below (told_by (slice_get fs (b.location - 1)) b.context b.stack) (of_blocks fs bs) (place_below fs h (b.location - 1) b.context b.stack) (blocks_below fs h bs)

  behind_below : (block : ℕ) → block < n → (t : Typing) (next : List Kind → List Entry) → ((B : List Kind) → AreBelow (next B)) → AreBelow (derivation_of.behind block t next)
  behind_below block h (goes B) next g = g B
  behind_below block h fails next g = (h, tt)
  behind_below block h (bad l) next g = tt

  mutual
    tree_below : (t : Tree) (at : ℕ) → at + size t ≤ n → (c : Context) (A : List Kind) → AreBelow (tree_entries t at c A)
    tree_below (prim name annots ts) at h c A =
        (omega (arith, h), blocks_below (tellers ts (at + 1)) (tellers_below ts (at + 1) (omega (arith, h))) (blocks (form_of (primitive_of_name name)) ts c A))
    tree_below (seq ts) at h c A = (omega (arith, h), trees_below ts at (at + 1) (omega (arith, h)) (omega (arith, h)) c A)
    tree_below (int z) at h c A = (omega (arith, h), tt)
    tree_below (str s) at h c A = (omega (arith, h), tt)
    tree_below (bytes b) at h c A = (omega (arith, h), tt)

    trees_below : (ts : Trees) (block at : ℕ) → block < n → at + sizes ts ≤ n → (c : Context) (A : List Kind) → AreBelow (trees_entries ts block at c A)
    trees_below none block at h g c A = (h, tt)
    trees_below (more t ts) block at h g c A =
        both_below (tree_entries t at c A) (derivation_of.behind block (tree_type t c A) (λ B. trees_entries ts block (at + size t) c B))
        (tree_below t at (omega (arith, g)) c A)
        (behind_below block h (tree_type t c A) (λ B. trees_entries ts block (at + size t) c B) (λ B. trees_below ts block (at + size t) h (omega (arith, g)) c B))

    block_below : (t : Tree) (at : ℕ) → at + size t ≤ n → (c : Context) (A : List Kind) → AreBelow (block_entries t at c A)
    block_below (seq ts) at h c A = trees_below ts at (at + 1) (omega (arith, h)) (omega (arith, h)) c A
    block_below (prim name annots ts) at h c A = tt
    block_below (int z) at h c A = tt
    block_below (str s) at h c A = tt
    block_below (bytes b) at h c A = tt

    tellers_below : (ts : Trees) (at : ℕ) → at + sizes ts ≤ n → TellBelow (tellers ts at)
    tellers_below none at h = tt
    tellers_below (more t ts) at h =
        (block_below t at (omega (arith, h)), tell_both (inner_tellers t at) (tellers ts (at + size t)) (inner_below t at (omega (arith, h))) (tellers_below ts (at + size t) (omega (arith, h))))

    inner_below : (t : Tree) (at : ℕ) → at + size t ≤ n → TellBelow (inner_tellers t at)
    inner_below (prim name annots ts) at h = tellers_below ts (at + 1) (omega (arith, h))
    inner_below (seq ts) at h = tellers_below ts (at + 1) (omega (arith, h))
    inner_below (int z) at h = tt
    inner_below (str s) at h = tt
    inner_below (bytes b) at h = tt

  pub derivation_below : (t : Tree) → size t ≤ n → AreBelow (derivation t)
  derivation_below t h = blocks_below (inner_tellers t 0) (inner_below t 0 (omega (arith, h))) (script_blocks 0 t)

readable : (l : ℕ) (A : List Kind) → EntryHasTypes (before l A) → AreReadable A
readable l [] h = tt
readable l (a ∷ A) h = (h.0, readable l A h.1)

-- entries of such types at such locations can be read
pub are_told : (es : List Entry) → EntriesHaveTypes es → AreBelow (2 ^ 32) es → AreTold es
are_told [] h g = tt
are_told (before l A ∷ es) h g = ((g.0, readable l A h.0), are_told es h.1 g.1)
are_told (end l A ∷ es) h g = ((g.0, readable l A h.0), are_told es h.1 g.1)
are_told (failing l ∷ es) h g = (g.0, are_told es h.1 g.1)
