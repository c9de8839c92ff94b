-- The counter of message identifiers. Assumes nothing.
use Rattle.meaning.specs.Wire.{next_id}
use Rattle.wire_writer.specs.declared.Counter.{Counter}

abbrev pub after : Counter → Counter
after c = record { next = next_id c.next }
