use Rattle.bucket_chain.proofs.content_lookups.look.Goals as goal

pub returns-in-Some-clause-looked : goal.returns-in-Some-clause-looked
returns-in-Some-clause-looked g c = (
  c.in-Some.lent.now.bytes,
  c.in-Some.ensures.link,
  c.look_in-found.ensures,
  c.in-Some.ensures.says,
)

pub returns-clause-looked : goal.returns-clause-looked
returns-clause-looked g c = (
  c.read_link.new.page.bytes,
  c.in_ok-next.ensures.link,
  c.look_in-found-2.ensures,
  c.in_ok-next.ensures.says,
)
