use Rattle.run_paths.proofs.Whole.{top_of, whole}
use Rattle.run_paths.proofs.laws.paths_stand.Goals as goal

pub returns-clause-lead : goal.returns-clause-lead
returns-clause-lead c = λ z h s stands lobby path at.
    c.paths_lead.ensures h.maps h.machine.memory (top_of h) z.cells z.places s z.made (whole c.heaps_stand_alone.ensures.heap z h s stands) lobby path (stands.objects 0 lobby at)

pub returns-clause-hold : goal.returns-clause-hold
returns-clause-hold c = λ z h s stands v word name value.
    c.slots_hold.ensures.slots h.maps h.machine.memory (top_of h) z.cells z.places s z.made (whole c.heaps_stand_alone.ensures.heap z h s stands) v word name value

pub returns-clause-number : goal.returns-clause-number
returns-clause-number c = λ z h s stands v word name value there.
    c.slots_hold.ensures.numbers h.maps h.machine.memory (top_of h) z.cells z.places s z.made (whole c.heaps_stand_alone.ensures.heap z h s stands) v word name value there

pub returns-clause-data : goal.returns-clause-data
returns-clause-data c = λ z h s stands v word value.
    c.data_stand.ensures.data h.maps h.machine.memory (top_of h) z.cells z.places s z.made (whole c.heaps_stand_alone.ensures.heap z h s stands) v word value

pub returns-clause-initials : goal.returns-clause-initials
returns-clause-initials c = λ z h s stands lobby path at.
    c.data_stand.ensures.initials h.maps h.machine.memory (top_of h) z.cells z.places s z.made (whole c.heaps_stand_alone.ensures.heap z h s stands) lobby path (stands.objects 0 lobby at)

pub returns-clause-read : goal.returns-clause-read
returns-clause-read c = λ z h s stands v word value. record {
  heap = top_of h;
  cells = z.cells;
  places = z.places;
  things = s.things;
  made = z.made;
  is = whole c.heaps_stand_alone.ensures.heap z h s stands;
  value = v;
  stands = value;
}
