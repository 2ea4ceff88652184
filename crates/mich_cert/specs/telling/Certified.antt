-- What the answer says of the certificate of a script.
use Rattle.std.specs.Prelude.{◌≡◌, codes, Result, Ok, Err}
use Rattle.rules_text.specs.nodes.Tree.{Tree, seq, Trees, none, more}
use Rattle.rules_data.specs.types.Printing.{named}
use Rattle.rules_code.specs.certificates.Certificates.{Certifying, certified, ill_typed, too_deep, too_long, certifying}
use Rattle.mich_base.specs.declared.node.Node.{Node}
use Rattle.mich_base.specs.View.{tree}
use Rattle.mich_cert.specs.declared.telling.error.CertError.{CertError}
use Rattle.mich_cert.specs.declared.telling.error.CertError.TheVariants as error

-- the answer is this one, unless memory runs out
abbrev pub IsAnswer : Certifying → Result Node CertError → Type 0
IsAnswer c (Ok n) = c ≡ certified (tree n)
IsAnswer c (Err (error.IllTyped l)) = c ≡ ill_typed l
IsAnswer c (Err (error.TooDeep l)) = c ≡ too_deep l
IsAnswer c (Err error.TooLong) = c ≡ too_long
IsAnswer c (Err error.Memory) = Unit {0}

-- the script of this node is certified so
abbrev pub IsCertified : Tree → Result Node CertError → Type 0
IsCertified t r = IsAnswer (certifying t) r

-- the certificate of a script with these nodes as its entries
abbrev pub certified_with : Tree → Trees → Tree
certified_with t es = named (codes "Certified") (more t (more (seq es) none))
