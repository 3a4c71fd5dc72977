-- The theorem of acceptance. Assumes nothing.
use Rattle.casefile.specs.Acceptance.{Acceptance}
use Rattle.casefile.proofs.Soundness.{sound}
use Rattle.casefile.proofs.Completeness.{complete}

pub acceptance : Acceptance
acceptance f c = (λ e. sound f c e, λ q. rw q.2 (complete c q.1 (rw q.2 at q.0)))
