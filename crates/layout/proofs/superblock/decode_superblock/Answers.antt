use Rattle.layout.proofs.superblock.decode_superblock.Goals as goal

pub returns-in-None-read_plan-clause-refused : goal.returns-in-None-read_plan-clause-refused
returns-in-None-read_plan-clause-refused c = (
  record {
    magic = c.in-Some.ensures.magic;
    version = (c.in-Some.version, c.in-Some.ensures.version);
    blank = c.in-Some.ensures.blank;
  },
  c.in-None-read_plan.ensures.none,
)
