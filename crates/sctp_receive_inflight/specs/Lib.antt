pub use Rattle.sctp_receive_flight.specs.InFlight
