-- The refusals of the crates below in the words of this one. Want of memory is one answer.
use Rattle.cert_text.specs.declared.error.CertError.{CertError}
use Rattle.cert_text.specs.declared.error.CertError.TheVariants as cert_error
use Rattle.source_check.specs.declared.error.SourceError.{SourceError}
use Rattle.source_check.specs.declared.error.SourceError.TheVariants as source
use Rattle.source_check.specs.declared.error.CheckError.{CheckError}
use Rattle.source_check.specs.declared.error.CheckError.TheVariants.{Source, Cert as Unread, Memory}
use Rattle.elab_flat.specs.declared.elaborate.FlatError.{FlatError}
use Rattle.elab_flat.specs.declared.elaborate.FlatError.TheVariants as flat

abbrev pub source_fault : SourceError → CheckError
source_fault (source.Text error) = Source (source.Text error)
source_fault (source.NotBuilt at) = Source (source.NotBuilt at)
source_fault (source.CostOver cost) = Source (source.CostOver cost)
source_fault (source.Points error) = Source (source.Points error)
source_fault source.Memory = Memory

abbrev pub cert_fault : CertError → CheckError
cert_fault (cert_error.BadCert line) = Unread (cert_error.BadCert line)
cert_fault cert_error.Memory = Memory

abbrev pub flat_fault : FlatError → SourceError
flat_fault (flat.NotBuilt at) = source.NotBuilt at
flat_fault flat.Memory = source.Memory
