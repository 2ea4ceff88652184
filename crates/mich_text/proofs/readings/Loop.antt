-- The reader's loop.
use Rattle.std.proofs.Common.{◌≡◌, ℕ, ◌<◌, true, false, List, [], ◌∷◌, ◌++◌, length, Option, Some, None, Result, Ok, Err, sym, ap, subst, ◌∙◌, arith}
use Rattle.rules_text.specs.nodes.Limits.{depth_limit}
use Rattle.rules_text.specs.nodes.Tree.{Tree}
use Rattle.rules_text.specs.text.Token.{Token}
use Rattle.rules_text.specs.text.Syntax.{element_tokens}
use Rattle.mich_text.specs.Machine.{Stack, unexpected, too_deep, finish, is_root, has_statement, ended_tree, start}
use Rattle.rules_text.specs.text.Lexical.{after_gap}
use Rattle.mich_text.specs.Plain.{IsFaultWithoutLimits, IsNodeWithoutLimits, IsEndWithoutLimits}
use Rattle.mich_base.specs.View.{tree}
use Rattle.mich_text.specs.Results.{Refuses, at_first_byte, no_place, later, IsStep, IsRead, IsWithinText}
use Rattle.rules_text.specs.text.Fault.{Flaw}
use Rattle.mich_text.specs.Gives.{flaw_view}
use Rattle.mich_text.specs.declared.fault.LexError.{LexError}
use Rattle.mich_text.specs.declared.fault.LexError.TheVariants as errors
use Rattle.rules_text.specs.declared.text.TextKind.TheVariants.{Unclosed}
use Rattle.mich_text.specs.declared.plain.Found.{Found}
use Rattle.mich_text.specs.declared.plain.Step.TheVariants.{Taken, Statement}
use Rattle.mich_text.proofs.grammar.Complete.{run_none}
use Rattle.mich_text.proofs.tokens.Gaps.{gap_le}
use Rattle.mich_text.proofs.tokens.Ahead.{token_shorter}
use Rattle.mich_text.proofs.grammar.Whole.{NoStatement, still_none}
use Rattle.mich_text.proofs.readings.Reading.{At}
use Rattle.mich_text.proofs.readings.Verdict.{flawed_first, unexpected_here, deep_here, flawed_later, at_next, closed_node}
use Rattle.mich_text.proofs.readings.AtEnd.{open_at_end, unclosed_node, nothing_here}
use Rattle.mich_text.proofs.readings.Comments.{comment_behind}
use Rattle.mich_text.proofs.readings.Places.{holds_within, stands_within}

none_yet : NoStatement []
none_yet e more h = none (element_tokens e) h where
  none : (l : List Token) → [] ≡ l ++ Token.semicolon ∷ more → ⊥
  none [] f = cc
  none (t ∷ l) f = cc

pub begun : (text first : List ℕ) (s : Stack) → Some first ≡ after_gap text → s ≡ start → (ts : List Token) × At text ts first s
begun text first s g e =
    ([], record { leads = sym g; runs = run_none depth_limit start ∙ ap (λ (x : Stack). Ok x) (sym e); lacks = none_yet })

module _ (text here : List ℕ) (s : Stack) (at : (ts : List Token) × At text ts here s) where
  pub refuses : (f : Flaw) → 0 < length here → Refuses here s f → IsFaultWithoutLimits text f.kind f.left
  refuses f some (at_first_byte e h) = flawed_first text at.0 here s at.1 some f e h
  refuses f some (no_place shape unexpected g e is fine) =
      subst (λ (d : Flaw). IsFaultWithoutLimits text d.kind d.left) (sym is) (unexpected_here text at.0 here s at.1 some shape g e fine)
  refuses f some (no_place shape too_deep g e is fine) =
      subst (λ (d : Flaw). IsFaultWithoutLimits text d.kind d.left) (sym is) (deep_here text at.0 here s at.1 some shape g e fine)
  refuses f some (later shape e g fits) = flawed_later text at.0 here s at.1 some f shape e g fits

  pub failed : (e : LexError) (r : Stack) → 0 < length here → IsStep here s r (Err e) → IsRead text (Err e)
  failed errors.Memory r some p = tt
  failed (errors.Flaw f) r some p = refuses (flaw_view f) some p

  pub smaller : (r : Stack) (behind : _) (next : List ℕ) → IsStep here s r (Ok (Taken behind)) → Some next ≡ after_gap behind.now
      → length next < length here
  smaller r behind next p g = omega (arith, token_shorter here behind.now p.0 p.1, gap_le behind.now next (sym g))

  lacks_more : (r : Stack) (behind : _) → (p : IsStep here s r (Ok (Taken behind))) → NoStatement (at.0 ++ p.0 ∷ [])
  lacks_more r behind p = still_none depth_limit s at.0 p.0 at.1.runs at.1.lacks p.3

  pub goes_on : (r : Stack) (behind : _) (next : List ℕ) → IsStep here s r (Ok (Taken behind)) → Some next ≡ after_gap behind.now
      → (ts : List Token) × At text ts next r
  goes_on r behind next p g =
      (at.0 ++ p.0 ∷ [], at_next text at.0 here s at.1 behind.now p.0 p.1 r p.2 next (sym g) (lacks_more r behind p))

  pub comment : (r : Stack) (behind : _) → IsStep here s r (Ok (Taken behind)) → None ≡ after_gap behind.now
      → IsFaultWithoutLimits text Unclosed 0
  comment r behind p g = comment_behind text at.0 here s r behind.now p.0 at.1 p.1 p.2 (sym g) (lacks_more r behind p)

  pub ends : (r : Stack) (behind : _) (first : List ℕ) (tree : Tree) → 0 < length here → IsStep here s r (Ok (Statement behind))
      → Some first ≡ after_gap text → ((d : Tree) → tree ≡ ended_tree r d)
      → (n : IsNodeWithoutLimits text tree (length first) (length behind.now)) × (0 < length n.stands.rest)
  ends r behind first tree some p g t =
      rw (t tree ∙ ap (λ (x : Stack). ended_tree x tree) p.4)
      (closed_node text at.0 here s p.0 first behind.now tree at.1 some (sym g) p.1 p.2 p.3)

module _ (text : List ℕ) (s r : Stack) (at : (ts : List Token) × At text ts [] s) (e : r ≡ finish s) where
  pub last_node : (first : List ℕ) (tree : Tree) → has_statement r ≡ true → Some first ≡ after_gap text
      → ((d : Tree) → tree ≡ ended_tree r d) → (n : IsNodeWithoutLimits text tree (length first) 0) × (n.stands.rest ≡ [])
  last_node first tree h g t =
      rw (t tree ∙ ap (λ (x : Stack). ended_tree x tree) e)
      (unclosed_node text at.0 s at.1 first tree (sym g) (ap has_statement (sym e) ∙ h))

  pub none_left : has_statement r ≡ false → is_root r ≡ true → IsEndWithoutLimits text
  none_left h i = nothing_here text at.0 s at.1 (ap is_root (sym e) ∙ i) (ap has_statement (sym e) ∙ h)

  pub open_left : is_root r ≡ false → IsFaultWithoutLimits text Unclosed 0
  open_left i = open_at_end text at.0 s at.1 (ap is_root (sym e) ∙ i)

pub read_within : (text : List ℕ) (r : Result (Option Found) LexError) → IsRead text r → IsWithinText (length text) r
read_within text (Ok None) p = tt
read_within text (Ok (Some found)) p = stands_within text (tree found.node) found.start found.end p.0.stands
read_within text (Err errors.Memory) p = tt
read_within text (Err (errors.Flaw f)) p = holds_within text f.kind f.left p.holds
