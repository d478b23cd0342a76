-- What is made here fits into a body, by the laws of the envelopes that drivers make. It is here for the proofs alone.
use Rattle.std.specs.Prelude.{◌≡◌, ℕ, ◌≤◌, List, length, Option, Some, None}
use Rattle.std.specs.Option.{option_map}
use Rattle.std.proofs.Common.{subst}
use Rattle.pws_addr.specs.Envelopes.{fault_text}
use Rattle.pws_addr.specs.declared.causes.Cause.{Cause}
use Rattle.pws_addr.specs.declared.causes.Cause.TheVariants as cause
use Rattle.pws_addr.proofs.Fitting.{calls_fit, faults_fit, replies_fit}
use Rattle.pws_driver.specs.Envelopes.{TextsFit}
use Rattle.pws_envelopes.specs.SoapWords.{cause_at, addressing_at, soap_words}

refusal_fits : (me caller number : ℕ) (c : Option Cause) (body : List ℕ) → option_map (fault_text me caller number None) c ≡ Some body → length body ≤ 32768
refusal_fits me caller number None body e = absurd (let i : ◌≡◌ {A = Option (List ℕ)} None (Some body) = e in cc)
refusal_fits me caller number (Some c) body e =
    let same : fault_text me caller number None c ≡ body = cc in
    subst (λ (t : List ℕ). length t ≤ 32768) same (faults_fit me caller number None c)

pub soap_fits : TextsFit soap_words
soap_fits = record {
  call = λ me key text body e. calls_fit me key.group key.number text body e;
  refusal = λ me key request body e. refusal_fits me key.group key.number (cause_at request) body e;
  reply = λ me key message text. replies_fit me key.group key.number (addressing_at message) text;
  halted = λ me key request. faults_fit me key.group key.number (addressing_at request) cause.Halted;
}
