pub mod NamedCalls
