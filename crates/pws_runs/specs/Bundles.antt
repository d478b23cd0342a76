-- How the responder gathers the parts of a reply; this project's own rules.
use Rattle.std.specs.Prelude.{ℕ, ◌+◌, ◌&&◌, not, Bool, true, false, nat_le, if◌then◌else◌, List, [], ◌∷◌, map, filter, length, Option, Some, None}
use Rattle.std.specs.Option.{unwrap_or}
use Rattle.std.specs.Str.{bytes_eq}
use Rattle.std.specs.FinMap.{empty, get, contains_key, insert, entries}
use Rattle.sha2.specs.Sha256.{sha256}
use Rattle.pws_event.specs.declared.events.Event.{Event}
use Rattle.pws_base.specs.Replicas.{is_other}
use Rattle.pws_event.specs.Effects.{last_of, low_of}
use Rattle.pws_service.specs.declared.acts.Act.{Act}
use Rattle.pws_service.specs.declared.keys.Key.{Key}
use Rattle.pws_msg.specs.Packets.{VoucherFields}
use Rattle.pws_runs.specs.declared.errors.Ignored.TheVariants as ignored
use Rattle.pws_runs.specs.ReplicaStates.{ReplicaState, Part, Bundle, Output, PassedOver, own_f}
use Rattle.pws_runs.specs.Calls.{kept_reply}
use Rattle.pws_runs.specs.Packets.{reply_out, is_responder}

-- a state, and what is put out on the way to it
pub record Stepped : Type 0 where
  pub state : ReplicaState
  pub outs : List Output

-- the state as it was
abbrev pub still : ReplicaState → List Output → Stepped
still s outs = record { state = s; outs = outs }

-- the bundle for a request, empty where none was begun
abbrev pub bundle_at : ReplicaState → Key → Bundle
bundle_at s k = unwrap_or (get s.bundles k) (record { parts = empty; is_sent = false })

-- another bundle is held for the request
abbrev pub with_bundle : ReplicaState → Key → Bundle → ReplicaState
with_bundle s k b = record s { bundles = insert s.bundles k b }

-- the vouchers of the parts that tell this digest, rising by sender
abbrev pub matching : Bundle → List ℕ → List VoucherFields
matching b digest = map (λ x. x.1.voucher) (filter (λ x. bytes_eq x.1.digest digest) (entries b.parts))

-- whether f others and I tell one digest, and no bundle was sent for the request
abbrev pub is_ready : ℕ → Bundle → List ℕ → Bool
is_ready f b digest = not b.is_sent && nat_le f (length (matching b digest))

-- where my own reply is kept and enough parts match it, the bundle is sent, once
unfoldable pub bundled : ReplicaState → Key → Option (List ℕ) → Stepped
bundled s k None = still s []
bundled s k (Some body) =
    if is_ready (own_f s) (bundle_at s k) (sha256 body)
    then still (with_bundle s k (record (bundle_at s k) { is_sent = true })) (reply_out s k body None (matching (bundle_at s k) (sha256 body)) ∷ [])
    else still s []

-- whether a part is kept: I am the responder, for a number from low_in to last + 16 of another group
unfoldable pub fits_part : ReplicaState → List Event → Key → Bool
fits_part s effects k =
    is_other s.me.group s.keys.layout k.group
    && (is_responder s k && (nat_le (low_of k.group effects) k.number && nat_le k.number (last_of k.group effects + 16)))

-- a part of a sender is added
abbrev pub with_part : Bundle → ℕ → Part → Bundle
with_part b sender x = record b { parts = insert b.parts sender x }

-- PART of a replica of my group: the first of its sender for the request is kept, and the bundle may then be sent
unfoldable pub heard_part : ReplicaState → List Act → List Event → ℕ → Key → Part → Stepped
heard_part s acts effects sender k x =
    if not (fits_part s effects k) then still s (PassedOver ignored.Outside ∷ [])
    else if contains_key (bundle_at s k).parts sender then still s (PassedOver ignored.Already ∷ [])
    else bundled (with_bundle s k (with_part (bundle_at s k) sender x)) k (kept_reply acts effects k)
