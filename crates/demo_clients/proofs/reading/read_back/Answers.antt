use Rattle.std.proofs.Common.{◌≡◌, ℕ, ◌+◌, true, false, length, sym, subst}
use Rattle.std.proofs.Common.{arith}
use Rattle.std.proofs.lemmas.List.{get_or_read}
use Rattle.demo_clients.specs.Contents.{share_of}
use Rattle.demo_clients.specs.Operations.{operations_on}
use Rattle.demo_clients.specs.Replies.{IsLinkReadBack}
use Rattle.demo_clients.proofs.ReadBackLemmas.{IsReadUpTo, up_to_all, up_to_more, up_to_not}
use Rattle.demo_clients.proofs.reading.read_back.Goals as goal

pub returns-then-not-branch-clause-unread : goal.returns-then-not-branch-clause-unread
returns-then-not-branch-clause-unread c seed content are =
    let links = c.args.links.now in
    let line = c.index-links-session.result in
    let first = share_of c.links.session c.args.blocks (length links) in
    let refused : c.in_ok-add_link.field-0 ≡ false = c.if-not-branch.true in
    let never = rw refused at (c.in_ok-add_link.ensures seed first) in
    up_to_not seed c.args.blocks (length links) links c.links.session line c.links-test.true
    (λ d. sym (get_or_read links c.links.session line c.links-test.true c.index-links-session.is d))
    c.links.content.items (c.links.invariant seed)
    (λ own is. never own
    (subst (λ (n : ℕ). IsLinkReadBack (operations_on seed first n) line own)
    (sym c.share_at-share.ensures.count) is))
    content are

pub links-preserved : goal.links-preserved
links-preserved c seed =
    let links = c.args.links.now in
    let line = c.index-links-session.result in
    let first = share_of c.links.session c.args.blocks (length links) in
    let granted : c.in_ok-add_link.field-0 ≡ true = c.if-not-branch.false in
    let own = rw granted at (c.in_ok-add_link.ensures seed first) in
    subst (λ text. IsReadUpTo seed c.args.blocks (length links) links (c.links.session + 1) text)
    (sym own.1)
    (up_to_more seed c.args.blocks (length links) links c.links.session line c.links-test.true
    (λ d. sym (get_or_read links c.links.session line c.links-test.true c.index-links-session.is d))
    c.links.content.items (c.links.invariant seed) own.0
    (subst (λ (n : ℕ). IsLinkReadBack (operations_on seed first n) line own.0)
    c.share_at-share.ensures.count own.2))

pub returns-clause-read : goal.returns-clause-read
returns-clause-read c seed =
    let links = c.args.links.now in
    let all : c.links.session ≡ length links =
    omega (arith, c.links-test.false, c.links.auto.session-end) in
    up_to_all seed c.args.blocks (length links) links c.links.content.items
    (subst (λ (n : ℕ). IsReadUpTo seed c.args.blocks (length links) links n c.links.content.items) all
    (c.links.invariant seed))
