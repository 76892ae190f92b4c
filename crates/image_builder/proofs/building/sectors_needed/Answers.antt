use Rattle.image_builder.proofs.building.sectors_needed.Goals as goal

pub returns-clause-needed : goal.returns-clause-needed
returns-clause-needed c = (c.in_ok-blueprint.blueprint, c.in_ok-blueprint.ensures.read, c.sectors.ensures.within, c.sectors.ensures.value)
