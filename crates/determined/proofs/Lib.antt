-- No contract of a public function of the terminal allows two results.
pub mod TerminalCalls
