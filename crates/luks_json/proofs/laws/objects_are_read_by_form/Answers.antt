use Rattle.json_members.proofs.ReadLemmas.{right_at}
use Rattle.luks_json.specs.Configs.{HasConfig}
use Rattle.luks_json.specs.Digests.{HasDigest}
use Rattle.luks_json.specs.Keyslots.{HasKeyslot}
use Rattle.luks_json.specs.Segments.{HasSegment}
use Rattle.luks_json.proofs.ConfigLemmas.{config_read, config_made}
use Rattle.luks_json.proofs.DigestLemmas.{digest_read, digest_made}
use Rattle.luks_json.proofs.KeyslotLemmas.{keyslot_read, keyslot_made}
use Rattle.luks_json.proofs.SegmentLemmas.{segment_read, segment_made}
use Rattle.luks_json.proofs.laws.objects_are_read_by_form.Goals as goal

pub returns-clause-keyslots : goal.returns-clause-keyslots
returns-clause-keyslots c origin path ms slot = (
  λ e. right_at _ slot (HasKeyslot origin ms) e (keyslot_read origin path ms),
  λ h. keyslot_made origin path ms slot h,
)

pub returns-clause-segments : goal.returns-clause-segments
returns-clause-segments c path ms s =
    (λ e. right_at _ s (HasSegment ms) e (segment_read path ms), λ h. segment_made path ms s h)

pub returns-clause-digests : goal.returns-clause-digests
returns-clause-digests c path ms d =
    (λ e. right_at _ d (HasDigest ms) e (digest_read path ms), λ h. digest_made path ms d h)

pub returns-clause-config : goal.returns-clause-config
returns-clause-config c hdr_size path ms x = (
  λ e. right_at _ x (HasConfig hdr_size ms) e (config_read hdr_size path ms),
  λ h. config_made hdr_size path ms x h,
)
