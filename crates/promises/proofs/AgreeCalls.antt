-- Any two results that a contract allows agree. A whole call: the reply, every word and every byte.
use mathlib.Core.Path.{◌≡◌, sym, ◌∙◌}
use Rattle.capi.proofs.whittermay_solve.Reads as capi-whittermay-solve-reads
use Rattle.engine.proofs.solve.Reads as engine-solve-reads

pub capi_whittermay_solve : (κs : _) (a : _) (r r' : _) (s s' : _) → capi-whittermay-solve-reads.Post κs a r s → capi-whittermay-solve-reads.Post κs a r' s' → (s.1.1.1.1.1.0.now ≡ s'.1.1.1.1.1.0.now) × (s.1.1.1.0.now ≡ s'.1.1.1.0.now) × (s.1.1.1.1.0.now ≡ s'.1.1.1.1.0.now)
capi_whittermay_solve κs a r r' s s' p q = (p.0 ∙ sym q.0, p.1.0 ∙ sym q.1.0, p.1.1 ∙ sym q.1.1)

pub engine_solve : (κs : _) (a : _) (r r' : _) (s s' : _) → engine-solve-reads.Post κs a r s → engine-solve-reads.Post κs a r' s' → (r ≡ r') × (s.1.1.1.0.now ≡ s'.1.1.1.0.now) × (s.1.1.1.1.0.now ≡ s'.1.1.1.1.0.now)
engine_solve κs a r r' s s' p q = (p.0 ∙ sym q.0, p.1.0 ∙ sym q.1.0, p.1.1 ∙ sym q.1.1)
