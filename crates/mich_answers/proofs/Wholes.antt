-- The nodes of a file, and the answer to its script.
use Rattle.std.proofs.Common.{◌≡◌, ℕ, ◌+◌, ◌≤◌, List, [], ◌∷◌, ◌++◌, length, map, Option, Some, None, Result, Ok, Err, IfOk, inl, inr, refl, ap, ◌∙◌, sym, subst, arith}
use Rattle.std.proofs.lemmas.List.{map-append}
use Rattle.rules_text.specs.nodes.Tree.{Tree, size, sizes}
use Rattle.std.specs.Prelude.{codes}
use Rattle.rules_text.specs.declared.text.TextKind.{TextKind}
use Rattle.rules_code.specs.instructions.Arguments.{Found, found, fault}
use Rattle.rules_code.specs.typing.Scripts.{Script}
use Rattle.rules_code.specs.typing.Nodes.{script}
use Rattle.rules_files.specs.commands.Answers.{Answer, done_with}
use Rattle.rules_files.specs.commands.Codec.{of_text}
use Rattle.rules_world.specs.lines.Nodes.{line, word}
use Rattle.rules_files.specs.commands.Places.{Placed, IsNodeAt, IsEndAt, IsFaultAt}
use Rattle.rules_code.specs.certificates.Certificates.{Certifying, certified, ill_typed, too_deep, too_long, certifying}
use Rattle.rules_files.specs.commands.Answers.{misplaced}
use Rattle.rules_files.specs.commands.Certificates.{IsVerified, IsAloneVerified, IsListedVerified, IsVerifyAnswer, certifying_answer}
use Rattle.rules_files.specs.commands.Scripts.{script_of, checking_answer}
use Rattle.mich_base.specs.View.{tree, trees}
use Rattle.mich_base.specs.declared.node.Node.{Node}
use Rattle.mich_instr.specs.Code.{ScriptCode}
use Rattle.mich_instr.specs.Typed.{IsScript, is_script}
use Rattle.mich_base.specs.declared.memory.Memory.{Memory}
use Rattle.mich_text.specs.declared.reader.Placed.{Placed as CodePlaced}
use Rattle.mich_answers.specs.Checked.{nodes_of, Through, IsWhole}
use Rattle.mich_answers.specs.Listed.{placed_seen, Keeps, IsListed, IsKeptVerified}
use Rattle.mich_answers.specs.View.{answer_seen, IsDoneOrRefused, IsScriptAnswer, script_answer}
use Rattle.mich_answers.specs.declared.answer.Answer.{Answer as Reply}
use Rattle.mich_answers.specs.declared.checking.ScriptCommand.{ScriptCommand}
use Rattle.mich_answers.specs.declared.checking.ScriptCommand.TheVariants as commands
use Rattle.mich_answers.specs.declared.checking.Statements.{Statements}
use Rattle.mich_answers.specs.declared.statements.Listed.{Listed}
use Rattle.mich_answers.proofs.Stated.{statements-more}

-- ---- the nodes

sizes-more : (ns : List Node) (n : Node) → sizes (trees (ns ++ n ∷ [])) ≡ sizes (trees ns) + size (tree n)
sizes-more [] n = omega arith
sizes-more (m ∷ ms) n = let e = sizes-more ms n in omega (arith, e)

-- one more statement
pub through_more : (file : List ℕ) (place : ℕ) (nodes : List Node) (p : CodePlaced) → Through file place nodes → IsNodeAt file place (tree p.node) p.start p.end →
    size (tree p.node) + place ≤ p.end → Through file p.end (nodes ++ p.node ∷ [])
through_more file place nodes p h node fits = record {
  statements = h.statements ++ placed_seen p ∷ [];
  stand = statements-more file 0 place p.end h.statements (placed_seen p) h.stand node;
  nodes_are = map-append tree nodes (p.node ∷ []) ∙ ap (λ (ts : List Tree). ts ++ tree p.node ∷ []) h.nodes_are ∙ sym (map-append (λ (s : Placed). s.node) h.statements (placed_seen p ∷ []));
  small = omega (arith, sizes-more nodes p.node, h.small, fits);
}

pub through_end : (file : List ℕ) (place : ℕ) (nodes : List Node) → place ≤ length file → Through file place nodes → IsEndAt file place →
    IsWhole file (record { nodes = nodes; fault = None })
through_end file place nodes within h end = record {
  found = record { statements = h.statements; fault = None };
  listing = (place, h.stand, end);
  nodes_are = h.nodes_are;
  small = omega (arith, within, h.small);
  fault_is = refl;
}

pub through_fault : (file : List ℕ) (place : ℕ) (nodes : List Node) (kind : TextKind) (at : ℕ) → place ≤ length file → Through file place nodes → IsFaultAt file place kind at →
    IsWhole file (record { nodes = nodes; fault = Some (kind, at) })
through_fault file place nodes kind at within h there = record {
  found = record { statements = h.statements; fault = Some (kind, at) };
  listing = (place, h.stand, there);
  nodes_are = h.nodes_are;
  small = omega (arith, within, h.small);
  fault_is = refl;
}

-- ---- the answer

answered : (command : Tree → Answer) (file : List ℕ) (l : Statements) (answer : Answer) (h : IsWhole file l) →
    answer ≡ of_text l.fault (command (script_of (map tree l.nodes))) → answer ≡ of_text h.found.fault (command (script_of (nodes_of h.found.statements)))
answered command file l answer h e =
    e ∙ ap (λ (ts : List Tree). of_text l.fault (command (script_of ts))) h.nodes_are
    ∙ ap (λ (f : Option (TextKind × ℕ)). of_text f (command (script_of (nodes_of h.found.statements)))) h.fault_is

-- the answer to the nodes is the answer to the file
whole_answer : (command : ScriptCommand) (file : List ℕ) (l : Statements) (answer : Answer) → IsWhole file l →
    answer ≡ of_text l.fault (script_answer command (script_of (map tree l.nodes))) → IsScriptAnswer command file answer
whole_answer commands.Check file l answer h e = (h.found, h.listing, answered (script_answer commands.Check) file l answer h e)
whole_answer commands.Certify file l answer h e = (h.found, h.listing, answered (script_answer commands.Certify) file l answer h e)

-- a typed script is accepted
pub accepted : (t : Tree) (c : ScriptCode) → IsScript t c → (a : Script) × (script t ≡ found a)
accepted t c (is_script e code views) = (_, e)

pub well_answer : (r : Result Reply Memory) (t : Tree) → (a : Script) × (script t ≡ found a) → IfOk r (λ x. answer_seen x ≡ done_with (line (word (codes "WellTyped")))) →
    IfOk r (λ x. answer_seen x ≡ checking_answer (script t))
well_answer (Ok x) t (a, e) h = h ∙ sym (ap checking_answer e)
well_answer (Err x) t (a, e) h = tt

-- it has the status of one that is done, or of one that refuses
checking_status : (f : Found Script) → IsDoneOrRefused (checking_answer f).status
checking_status (found a) = inl refl
checking_status (fault l) = inr refl

certifying_status : (c : Certifying) → IsDoneOrRefused (certifying_answer c).status
certifying_status (certified n) = inl refl
certifying_status (ill_typed l) = inr refl
certifying_status (too_deep l) = inr refl
certifying_status too_long = inr refl

text_status : (o : Option (TextKind × ℕ)) (answer : Answer) → IsDoneOrRefused answer.status → IsDoneOrRefused (of_text o answer).status
text_status None answer h = h
text_status (Some f) answer h = inr refl

listed_status : (o : Option (TextKind × ℕ)) (own answer : Answer) → IsDoneOrRefused own.status → answer ≡ of_text o own → IsDoneOrRefused answer.status
listed_status o own answer h e = subst (λ (a : Answer). IsDoneOrRefused a.status) (sym e) (text_status o own h)

script_status : (command : ScriptCommand) (file : List ℕ) (answer : Answer) → IsScriptAnswer command file answer → IsDoneOrRefused answer.status
script_status commands.Check file answer (listed, l, e) =
    listed_status listed.fault _ answer (checking_status (script (script_of (nodes_of listed.statements)))) e
script_status commands.Certify file answer (listed, l, e) =
    listed_status listed.fault _ answer (certifying_status (certifying (script_of (nodes_of listed.statements)))) e

pub script_ends : (command : ScriptCommand) (file : List ℕ) (r : Result Reply Memory) → IfOk r (λ a. IsScriptAnswer command file (answer_seen a)) →
    IfOk r (λ a. IsDoneOrRefused a.status)
script_ends command file (Ok a) h = script_status command file (answer_seen a) h
script_ends command file (Err e) h = tt

pub whole_ok : (command : ScriptCommand) (file : List ℕ) (l : Statements) (r : Result Reply Memory) → IsWhole file l →
    IfOk r (λ a. answer_seen a ≡ of_text l.fault (script_answer command (script_of (map tree l.nodes)))) → IfOk r (λ a. IsScriptAnswer command file (answer_seen a))
whole_ok command file l (Ok a) h e = whole_answer command file l (answer_seen a) h e
whole_ok command file l (Err x) h e = tt

-- ---- a certificate

alone_verified : (size : ℕ) (ss : List Placed) (first : Option CodePlaced) (second : Option ℕ) (answer : Answer) → Keeps ss first second →
    IsKeptVerified None size first second answer → IsAloneVerified size ss answer
alone_verified size [] None second answer k h = h
alone_verified size [] (Some p) second answer k h = let e = k.first_is in absurd cc
alone_verified size (s ∷ ss) None second answer k h = let e = k.first_is in absurd cc
alone_verified size (s ∷ []) (Some p) None answer k h =
    let e : placed_seen p ≡ s = same_of k.first_is in subst (λ (x : Placed). IsVerified x.node answer) e h
  where
    or_else : Option Placed → Placed
    or_else None = s
    or_else (Some x) = x

    same_of : Some (placed_seen p) ≡ Some s → placed_seen p ≡ s
    same_of e = ap or_else e
alone_verified size (s ∷ []) (Some p) (Some at) answer k h = let e = k.second_is in absurd cc
alone_verified size (s ∷ r ∷ ss) (Some p) None answer k h = let e = k.second_is in absurd cc
alone_verified size (s ∷ r ∷ ss) (Some p) (Some at) answer k h = let e = k.second_is in let w : at ≡ r.place = cc in h ∙ ap misplaced w

listed_verified : (o f : Option (TextKind × ℕ)) (size : ℕ) (ss : List Placed) (first : Option CodePlaced) (second : Option ℕ) (answer : Answer) → o ≡ f → Keeps ss first second →
    IsKeptVerified o size first second answer → IsListedVerified f size ss answer
listed_verified None None size ss first second answer e k h = alone_verified size ss first second answer k h
listed_verified None (Some y) size ss first second answer e k h = absurd cc
listed_verified (Some x) None size ss first second answer e k h = absurd cc
listed_verified (Some x) (Some y) size ss first second answer e k h = subst (λ o. IsListedVerified o size ss answer) e h

pub verified_ok : (file : List ℕ) (l : Listed) (r : Result Reply Memory) → IsListed file l →
    IfOk r (λ a. IsKeptVerified l.fault (length file) l.first l.second (answer_seen a)) → IfOk r (λ a. IsVerifyAnswer file (answer_seen a))
verified_ok file l (Ok a) h e = (h.found, h.listing, listed_verified l.fault h.found.fault (length file) h.found.statements l.first l.second (answer_seen a) h.fault_is h.kept e)
verified_ok file l (Err x) h e = tt

verified_status : (t : Tree) (answer : Answer) → IsVerified t answer → IsDoneOrRefused answer.status
verified_status t answer (inl (v, e)) = inl (ap (λ (a : Answer). a.status) e)
verified_status t answer (inr (v, e)) = inr (ap (λ (a : Answer). a.status) e)

kept_status : (o : Option (TextKind × ℕ)) (size : ℕ) (first : Option CodePlaced) (second : Option ℕ) (answer : Answer) →
    IsKeptVerified o size first second answer → IsDoneOrRefused answer.status
kept_status (Some f) size first second answer e = inr (ap (λ (a : Answer). a.status) e)
kept_status None size None second answer e = inr (ap (λ (a : Answer). a.status) e)
kept_status None size (Some p) None answer h = verified_status (tree p.node) answer h
kept_status None size (Some p) (Some at) answer e = inr (ap (λ (a : Answer). a.status) e)

pub verified_ends : (l : Listed) (size : ℕ) (r : Result Reply Memory) → IfOk r (λ a. IsKeptVerified l.fault size l.first l.second (answer_seen a)) →
    IfOk r (λ a. IsDoneOrRefused a.status)
verified_ends l size (Ok a) h = kept_status l.fault size l.first l.second (answer_seen a) h
verified_ends l size (Err x) h = tt
