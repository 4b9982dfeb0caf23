-- A node that sends has a message at its trap.
use Rattle.plain_sends.specs.Messages.{SendsMessage}

pub sends_message : SendsMessage
sends_message z h s b n node sel r q = record {
  at = q.at;
  moved = q.asks.moved;
  behind = q.behind;
  low = q.low;
  takes = q.takes;
  sender = q.sender;
  older = q.older;
  is_at = q.is_at;
  message = q.message;
  words = q.words;
  send = q.send;
  receiver_is = q.receiver_is;
  arguments = q.arguments;
  rest = q.rest;
}
