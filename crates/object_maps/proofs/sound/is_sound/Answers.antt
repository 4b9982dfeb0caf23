use Rattle.object_maps.proofs.sound.is_sound.Goals as goal

pub have_listed-requires : goal.have_listed-requires
have_listed-requires c = c.are_objects.ensures.0 c.if-are_objects.true

pub returns-then-are_objects : goal.returns-then-are_objects
returns-then-are_objects c = (
  λ t. record { object = c.are_objects.ensures.0 c.if-are_objects.true; parent = c.have_listed.ensures.0 t },
  λ sound. c.have_listed.ensures.1 sound.parent,
)
