-- How many bytes a replica holds for others: a body or a content counts its length, a tag or a digest 32; this project's
-- own. How many a voter holds is told beside the voter.
use Rattle.std.specs.Prelude.{◌≡◌, ℕ, ◌+◌, ◌*◌, ◌≤◌, nat_le, if◌then◌else◌, List, length, sum_by, Option, Some, None}
use Rattle.std.specs.List.{filter_map}
use Rattle.std.specs.FinMap.{get, values}
use Rattle.pws_base.specs.declared.shapes.ReplicaId.{ReplicaId}
use Rattle.pws_event.specs.declared.events.Event.{Event}
use Rattle.pws_event.specs.Effects.{low_of}
use Rattle.pws_service.specs.declared.acts.Act.{Act}
use Rattle.pws_service.specs.declared.acts.Act.TheVariants as act
use Rattle.pws_msg.specs.Contents.{content_text}
use Rattle.pws_protocol.specs.Held.{held}
use Rattle.pws_runs.specs.ReplicaStates.{ReplicaState, Serve, Part, Bundle}
use Rattle.pws_runs.specs.Calls.{waiting_calls, own_effects}
use Rattle.pws_runs.specs.Worlds.{Setting, WorldState, IsSetting}
use Rattle.pws_runs.specs.Reached.{IsReached}

-- the digest that a part told, and its voucher with its tags
abbrev part_size : Part → ℕ
part_size x = 32 + length (content_text x.voucher.content) + 32 * length x.voucher.tags

-- what a bundle holds
abbrev bundle_size : Bundle → ℕ
bundle_size b = sum_by part_size (values b.parts)

-- the parts of all bundles
unfoldable pub parts_held : ReplicaState → ℕ
parts_held s = sum_by bundle_size (values s.bundles)

-- the body of a reply that is kept, if an act is one
abbrev kept_body : List Event → Act → Option (List ℕ)
kept_body effects (act.Reply caller number body) = if nat_le (low_of caller effects) number then Some body else None
kept_body effects _ = None

-- the bodies of calls that wait, and of replies that are kept
unfoldable pub answers_held : List Act → List Event → ℕ
answers_held acts effects = sum_by (λ c. length c.body) (waiting_calls acts effects) + sum_by length (filter_map (kept_body effects) acts)

-- what others can make a replica hold stays within its bounds: 192 MiB in its voter, 96 MiB of parts, 16 MiB of calls and
-- replies
pub record IsBounded (serve : Serve) (s : ReplicaState) : Type 0 where
  pub voter : held s.voter ≤ 201326592
  pub parts : parts_held s ≤ 100663296
  pub answers : answers_held (serve (own_effects serve s)) (own_effects serve s) ≤ 16777216

-- to be proved: so it is in each world that moves lead to
abbrev pub ReplicasAreBounded : Type 0
ReplicasAreBounded =
    (seed : List ℕ) (e : Setting) (w : WorldState) (r : ReplicaId) (s : ReplicaState) → IsSetting seed e → IsReached e w
    → get w.replicas r ≡ Some s → IsBounded (e.serve r.group) s
