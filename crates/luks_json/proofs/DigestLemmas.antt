-- A digest and its members.
use Rattle.std.proofs.Common.{◌≡◌, ℕ, List, codes, Ok, refl, sym, ap, subst}
use Rattle.serde_json.specs.Data.{Members}
use Rattle.json_members.specs.declared.faults.JsonFaultKind.TheVariants.{Unsupported}
use Rattle.json_members.specs.Fields.{meant_in, word_in, counted_in, bytes_in, decimals_in}
use Rattle.json_members.specs.Members.{Lacks, IsPlain}
use Rattle.json_members.proofs.DataLemmas.{text_plain, number_plain, decimals_plain}
use Rattle.json_members.proofs.FieldLemmas.{word_in-word, word_got, decimals_in-decimals}
use Rattle.json_members.proofs.FieldLemmas.{decimals_got, meant_in-text, meant_named}
use Rattle.json_members.proofs.FieldLemmas.{bytes_in-bytes, bytes_got}
use Rattle.json_members.proofs.PlainLemmas.{put_all-plain, without_all-plain, Lacks-without_all}
use Rattle.json_members.proofs.PutLemmas.{get_member-put_all, without_all-put_all}
use Rattle.json_members.proofs.ReadLemmas.{Right, then}
use Rattle.luks_meta.specs.declared.digest.Digest.{Digest}
use Rattle.luks_meta.specs.Digests.{digest_names}
use Rattle.luks_json.specs.Digests.{digest_of, digest_fields, digest_members}
use Rattle.luks_json.specs.Digests.{HasDigest}
use Rattle.luks_meta.specs.Digests.{IsDigest}
use Rattle.luks_meta.specs.Names.{hash_name, hash_named, iterations_of}
use Rattle.luks_json.proofs.NameLemmas.{hash_named-exact, hash_named-name, iterations_got}
use Rattle.luks_json.proofs.NameLemmas.{iterations_made}

-- what is read is among the members
pub digest_read : (path : List ℕ) (ms : Members) → Right (HasDigest ms) (digest_of path ms)
unfolding digest_of
digest_read path ms =
    then (word_in (codes "pbkdf2") path (codes "type") ms) _ _ (λ kind a.
    then (decimals_in path (codes "keyslots") ms) _ _ (λ keyslots b.
    then (decimals_in path (codes "segments") ms) _ _ (λ segments c.
    then (meant_in Unsupported hash_named path (codes "hash") ms) _ _ (λ hash d.
    then (counted_in iterations_of path (codes "iterations") ms) _ _ (λ iterations e.
    then (bytes_in path (codes "salt") ms) _ _ (λ salt f.
    then (bytes_in path (codes "digest") ms) _ _ (λ digest g.
    let counted = iterations_got path (codes "iterations") ms iterations e in
    record {
      kind = word_got (codes "pbkdf2") path (codes "type") ms kind a;
      keyslots = decimals_got path (codes "keyslots") ms keyslots b;
      segments = decimals_got path (codes "segments") ms segments c;
      hash = meant_named Unsupported hash_named hash_name hash_named-exact path (codes "hash") ms
          hash d;
      iterations = counted.0;
      within = counted.1;
      salt = bytes_got path (codes "salt") ms salt f;
      digest = bytes_got path (codes "digest") ms digest g;
      rest = refl;
    })))))))

-- what is among the members is read
pub digest_made : (path : List ℕ) (ms : Members) (d : Digest) → HasDigest ms d
    → digest_of path ms ≡ Ok d
unfolding digest_of
digest_made path ms d h =
    rw (
      word_in-word (codes "pbkdf2") path (codes "type") ms h.kind,
      decimals_in-decimals path (codes "keyslots") ms d.keyslots h.keyslots.0 h.keyslots.1,
      decimals_in-decimals path (codes "segments") ms d.segments h.segments.0 h.segments.1,
      meant_in-text Unsupported hash_named path (codes "hash") ms (hash_name d.hash) d.hash h.hash
          (hash_named-name d.hash),
      iterations_made path (codes "iterations") ms d.iterations h.iterations h.within,
      bytes_in-bytes path (codes "salt") ms d.salt h.salt.0 h.salt.1,
      bytes_in-bytes path (codes "digest") ms d.digest h.digest.0 h.digest.1,
    )
    (ap (λ (r : Members). Ok
    (record {
      keyslots = d.keyslots;
      segments = d.segments;
      hash = d.hash;
      iterations =
          d.iterations;
      salt = d.salt;
      digest = d.digest;
      rest = r;
    })) (sym h.rest))

-- what is written is among the members
pub digest_written : (d : Digest) → IsDigest d → HasDigest (digest_members d) d
unfolding digest_members
digest_written d is =
    let at = λ (name : List ℕ). get_member-put_all name (digest_fields d) d.rest in
    record {
      kind = at (codes "type");
      keyslots = (at (codes "keyslots"), is.keyslots);
      segments = (at (codes "segments"), is.segments);
      hash = at (codes "hash");
      iterations = at (codes "iterations");
      within = is.iterations;
      salt = (at (codes "salt"), is.salt);
      digest = (at (codes "digest"), is.digest);
      rest = sym (without_all-put_all digest_names (digest_fields d) d.rest refl is.lacks);
    }

pub digest_right : (ms : Members) (d : Digest) → IsPlain 124 ms → HasDigest ms d → IsDigest d
digest_right ms d plain h = record {
  keyslots = h.keyslots.1;
  segments = h.segments.1;
  iterations = h.within;
  salt = h.salt.1;
  digest = h.digest.1;
  lacks = subst (Lacks digest_names) (sym h.rest) (Lacks-without_all digest_names ms);
  plain = subst (IsPlain 124) (sym h.rest) (without_all-plain digest_names ms plain);
}

pub digest_plain : (d : Digest) → IsDigest d → IsPlain 124 (digest_members d)
unfolding digest_members
digest_plain d is =
    put_all-plain (digest_fields d) d.rest (
      text_plain _,
      (
        decimals_plain _,
        (decimals_plain _, (text_plain _, (number_plain _, (text_plain _, (text_plain _, tt))))),
      ),
    ) is.plain
