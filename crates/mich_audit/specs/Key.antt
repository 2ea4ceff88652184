-- The node by whose printed line a ticket is found.
use Rattle.rules_text.specs.nodes.Tree.{Tree, bytes, seq, none, more}
use Rattle.rules_audit.specs.Fields.{Identity}

abbrev pub identity_node : Identity → Tree
identity_node id = seq (more (bytes id.issuer) (more id.kind (more id.content none)))
